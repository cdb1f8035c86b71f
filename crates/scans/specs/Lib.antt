-- The lent list of open scans, and the table of it.
pub mod Entries
pub mod Table

-- Laws of the list of open scans and of its table, for the proofs of this crate and of those above it.
pub mod Entries
pub mod Table
pub mod Answers

-- The calls that change the store: begin, commit and abort (Transactions), the notes of what a transaction does (Notes), keepers (Keepers), insert (Insert), update and delete (Append, Masks, Records, Update).
pub mod Keepers
pub mod Moved
pub mod Transactions
pub mod Notes
pub mod Insert
pub mod Append
pub mod Masks
pub mod Records
pub mod Update

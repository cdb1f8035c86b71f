-- The steps of insert, update and delete.
pub mod Steps

-- The tests that update and delete share.
pub mod Steps

-- The stored facts, and what the code that tests them is told.
pub mod Facts
pub mod Usable
pub mod Tests

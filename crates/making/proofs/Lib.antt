-- Laws of a store just made.
pub mod Blank
pub mod Answers

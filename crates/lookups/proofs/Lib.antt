-- Laws of the reading calls.
pub mod Answers
pub mod Listing

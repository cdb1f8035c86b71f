-- What is shared by functions that take an answer apart.
pub mod Answers

-- Laws of the pages' facts, and the answers of the test of the measures.
pub mod Inverse
pub mod Waiting
pub mod Answers

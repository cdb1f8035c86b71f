-- Laws that the functions' proofs cite.
pub mod Tests
pub mod Listing

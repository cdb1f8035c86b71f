-- Lemmas of more than one function.
pub mod Indices
pub mod Cases
pub mod Finding

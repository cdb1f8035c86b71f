-- Lemmas of the conditions.
pub mod Masks
pub mod Opens
pub mod Records

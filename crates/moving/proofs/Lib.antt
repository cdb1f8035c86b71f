-- Lemmas of the moves.
pub mod Borne
pub mod Ends
pub mod Laid

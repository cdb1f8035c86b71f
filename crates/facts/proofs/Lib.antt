-- Laws of the stored facts, for the proofs of the crates that test them and of those above.
pub mod Each
pub mod Order
pub mod Parts
pub mod Ready
pub mod Usable

-- Laws of the view of a memory, for the proofs of this crate and of those above it.
pub mod Cut
pub mod View
pub mod Lay
pub mod Limits
pub mod Renewed
pub mod Indices
pub mod Parts
pub mod Moved

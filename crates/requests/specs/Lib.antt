-- The scan list in bytes, what a request asks for, and what its call gives.
pub mod Packed
pub mod Requested

-- The store as definitions over a view of the memory: how it is read, how it is written, the calls, what they may change, what is claimed of them, and what the
-- code asks. Represents is the relation between memory and history that every call keeps; Unfolding is for proofs alone.
pub mod Stored
pub mod Reading
pub mod Versions
pub mod Writing
pub mod Calls
pub mod Footprint
pub mod Claims
pub mod Table
pub mod Preconditions
pub mod Represents
pub mod Unfolding
pub mod Machine

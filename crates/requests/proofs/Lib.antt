-- Laws that the functions of this crate rest on.
pub mod Entries
pub mod Arms
pub mod Equivalent
pub mod Masks
pub mod Values

-- What the functions that look for keepers are told.
pub mod Borne

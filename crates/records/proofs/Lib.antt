-- Laws of the rows that a range's records may name.
pub mod Names

-- What the summing code's running tally is.
pub mod Sums

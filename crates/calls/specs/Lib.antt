-- What the public calls promise, and what follows for a list of them.
pub mod Runs
pub mod Values

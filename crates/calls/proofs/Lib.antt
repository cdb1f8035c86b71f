-- What the proofs of the public calls share, and what follows for every run of calls.
pub mod Runs
pub mod Served
pub mod Values

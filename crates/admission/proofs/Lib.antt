-- From the test of the memory to what the calls rely on, and from the answers of the tests to what a call promises.
pub mod Decided
pub mod Fitted
pub mod Scans
pub mod Served

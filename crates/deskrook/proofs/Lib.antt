-- How an export replies, and what follows from the exports' promises.
pub mod Exported
pub mod Tested
pub mod Results
pub mod Runs

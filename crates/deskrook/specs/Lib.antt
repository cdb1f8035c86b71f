-- What the exports promise, and what follows for a list of them.
pub mod Replies
pub mod Runs

-- The steps of merge and release.
pub mod Steps

-- The steps of the pass that lists crossings.
pub mod Steps

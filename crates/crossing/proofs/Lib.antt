-- The pass meets its contracts.
pub mod Records
pub mod Standing

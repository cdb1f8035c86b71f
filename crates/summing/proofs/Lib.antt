-- Lemmas of a scan's sum.
pub mod Signed
pub mod Sums

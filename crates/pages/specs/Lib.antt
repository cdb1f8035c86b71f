-- What the test of a lent memory answers, and the inverse by which the test of pages divides.
pub mod Checked
pub mod Inverse

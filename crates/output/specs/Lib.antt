-- What gatebook must write for any input, at once and step by step, what answers its calls, and the worked example.
pub mod Output
pub mod Steps
pub mod Example

-- The demands, what every call on a lent memory and scan list promises, and what it may change; Represents states the argument.
pub mod Demands
pub mod Promise
pub mod Stated
pub mod Represents
pub mod Footprint

-- The demands, proved of lent bytes: a store that calls made is usable, so what the calls promise is what the model says.
pub mod Tests
pub mod Stored
pub mod Represents
pub mod Demands
pub mod Refused
pub mod Stated
pub mod Makes
pub mod Alone
pub mod Footprint
pub mod Moves

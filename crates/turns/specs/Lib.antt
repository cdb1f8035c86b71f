-- What a turn of `gatebook` does, and what its turns write for any input.
pub mod Turns
pub mod Gatebook

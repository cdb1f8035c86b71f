-- Laws of what is due, and the theorem over pieces.
pub mod Due
pub mod Answered
pub mod Going
pub mod Rounds

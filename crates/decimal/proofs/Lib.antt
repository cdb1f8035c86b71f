-- Laws of numbers in decimal.
pub mod Digits
pub mod Pieces
pub mod Signs

-- What is still to be written, what a round of the program does with the bytes at hand, and the claim over an input in pieces.
pub mod Due
pub mod Rounds

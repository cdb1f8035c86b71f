-- Numbers in decimal, and what is written of them into a buffer.
pub mod Decimal
pub mod Written

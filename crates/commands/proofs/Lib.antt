-- Laws of the commands and of their operands.
pub mod Table
pub mod Bytes
pub mod Items
pub mod Parts
pub mod Uses

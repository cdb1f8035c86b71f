-- gatebook's lines, and what is written of them into a buffer.
pub mod Lines
pub mod Written

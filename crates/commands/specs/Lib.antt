-- gatebook's commands: what the bytes of an input are, and what the code makes of them.
pub mod Commands
pub mod Decoded

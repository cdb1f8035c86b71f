-- The program's reads, rounds and writes, and how a run ends.
pub mod Course

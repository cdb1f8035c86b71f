-- The calls that read: whether a row is there (Heads), the value of a cell (Read), and a cell's values one after another (Versions).
pub mod Heads
pub mod Read
pub mod Versions

-- The program's rounds one after another.
pub mod Ran

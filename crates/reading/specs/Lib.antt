-- What the finders of a waiting page and of a setter answer.
pub mod ScanPages
pub mod Setters

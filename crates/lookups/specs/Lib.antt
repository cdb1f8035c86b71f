-- What the tests of the reading calls share and find.
pub mod Lookups

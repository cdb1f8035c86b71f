-- What the finder of a row's newest record answers.
pub mod Finders

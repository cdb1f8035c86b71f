-- What every call begins with: what a memory that passed the test gives, and what a call's own tests tell.
pub mod Admitted
pub mod Given
pub mod Tested

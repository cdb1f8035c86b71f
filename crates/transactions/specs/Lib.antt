-- The record of an open transaction, and the steps that the functions are made of.
pub mod Pending
pub mod Steps

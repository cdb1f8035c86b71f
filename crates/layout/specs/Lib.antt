-- Where the fields of a store lie among the words of its memory, and what a view of them is.
pub mod Cut
pub mod Codes
pub mod Regions
pub mod Starts
pub mod View
pub mod Sizes
pub mod Moved
pub mod Parts

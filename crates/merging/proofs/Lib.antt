-- A merge's pass over the records, and the freeing of pages.
pub mod Pass
pub mod Freeing

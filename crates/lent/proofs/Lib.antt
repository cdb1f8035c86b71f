-- What it takes to free the list entry by entry.
pub mod Freed

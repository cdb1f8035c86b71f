-- What the calls on the scan list leave of it, and the last tests of a merge.
pub mod Lists

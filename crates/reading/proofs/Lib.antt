-- Lemmas of the walk, of the word that it finds, of who set it, and of a scan's page.
pub mod Answering
pub mod Walking
pub mod Keepers
pub mod Setting
pub mod ScanPages

-- The widths of a pack.
pub mod Pack

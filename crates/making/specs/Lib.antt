-- What making a store does.
pub mod Made

-- That the store answers as the plain history does: every call keeps the relation of specs/Represents (Calls), and Claims says what follows. What the families
-- of calls share stands here; each family, under the name of the crate that has its code, is a folder.
pub mod Alike
pub mod Lists
pub mod Book
pub mod Opens
pub mod Holding
pub mod Steady
pub mod Views
pub mod changes
pub mod lookups
pub mod upkeep
pub mod Calls
pub mod Openings
pub mod Made
pub mod Claims
pub mod Footprint

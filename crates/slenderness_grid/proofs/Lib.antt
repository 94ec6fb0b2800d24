-- The laws.
pub mod Searches
pub mod Rows
pub mod Curved
pub mod Seen

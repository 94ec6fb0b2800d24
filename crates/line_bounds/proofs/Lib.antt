-- The laws.
pub mod Words
pub mod Kept
pub mod Line
pub mod Means
pub mod Wanted

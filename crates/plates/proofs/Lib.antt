-- The laws.
pub mod Lists
pub mod Shells
pub mod Loads
pub mod Choices
pub mod Whole

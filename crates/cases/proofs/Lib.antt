-- The laws.
pub mod Checks
pub mod Right
pub mod Wanting
pub mod Worst
pub mod Fives
pub mod Orders
pub mod Places

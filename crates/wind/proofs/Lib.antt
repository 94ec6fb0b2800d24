-- The laws.
pub mod Agree
pub mod Stress
pub mod Rows
pub mod Search

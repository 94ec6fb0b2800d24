pub mod Checks
pub mod Loads
pub mod Right
pub mod Trial
pub mod Shortfall
pub mod Wind
pub mod Pressure
pub mod Orders

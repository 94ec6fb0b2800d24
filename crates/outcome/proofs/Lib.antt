pub mod Laws
pub mod Demand3
pub mod Newlines

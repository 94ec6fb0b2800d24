pub mod Inverse
pub mod Answers
pub mod Unique
pub mod Shortfall
pub mod OwnLines
pub mod Orders
pub mod Parts

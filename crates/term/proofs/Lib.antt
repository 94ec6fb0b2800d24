pub mod Products
pub mod Millionths
pub mod Terms

pub mod Single
pub mod Jumps

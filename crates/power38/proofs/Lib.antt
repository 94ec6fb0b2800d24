-- The laws.
pub mod Powers

-- The laws.
pub mod Places
pub mod Stresses
pub mod Wanted

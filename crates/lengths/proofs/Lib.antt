-- The laws.
pub mod Fits

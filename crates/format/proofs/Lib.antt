pub mod Formats
pub mod Fixed

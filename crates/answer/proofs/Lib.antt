pub mod Tests
pub mod Checks
pub mod Right
pub mod Verdicts
pub mod Governing
pub mod Numbers

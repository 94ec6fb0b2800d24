-- Nobody has to believe these: only contracts between crates speak of them.
pub mod Around
pub mod Levelled

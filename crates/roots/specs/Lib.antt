-- Nobody has to believe these: only contracts between crates speak of them.
pub mod Degree
pub mod Guessed
pub mod Largest

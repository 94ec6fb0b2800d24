-- Nobody has to believe these: only contracts between crates speak of them.
pub mod Guessed
pub mod Highest
pub mod TermsOf

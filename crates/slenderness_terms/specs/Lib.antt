-- Nobody has to believe it: only contracts between crates speak of it.
pub mod TermsFor

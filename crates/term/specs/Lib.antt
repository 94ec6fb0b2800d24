-- Nobody has to believe it: only contracts between crates speak of it, and proofs/Terms.antt has that the terms of a shell are these.
pub mod TermOf

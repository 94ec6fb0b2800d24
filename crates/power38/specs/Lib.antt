-- Nobody has to believe this: crate pressure has what it is the place of.
pub mod Power

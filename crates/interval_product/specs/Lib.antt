-- Nobody has to believe this: only a contract of this crate speaks of it.
pub mod Bounds

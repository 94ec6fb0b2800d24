-- Between two different numbers lies a fraction: of powers, and of tests that have a root beside a whole number.
pub mod Density
pub mod Roots

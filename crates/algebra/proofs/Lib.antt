-- The laws. Examples.antt shows each tool at work.
pub mod Bisection
pub mod Examples
pub mod Fractions
pub mod Nonlinear
pub mod Polynomial
pub mod Powers
pub mod Ring
pub mod Tables
pub mod Tests

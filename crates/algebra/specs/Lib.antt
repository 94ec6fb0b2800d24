-- To be believed, beside docs/SCOPE.md: Choice.
pub mod Choice
-- Nobody has to believe these: tests and searches that proofs compute with. proofs/ says what a passed test and a search give, of plain numbers.
pub mod Bisection
pub mod Certificate
pub mod Polynomial
pub mod Quotation

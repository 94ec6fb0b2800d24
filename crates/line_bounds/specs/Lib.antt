-- To be believed, beside docs/SCOPE.md: Means.
pub mod Means
-- Nobody has to believe these, of which only contracts speak: `line_bounds_lem` (crate pressure) has that the bounds are right.
pub mod Places

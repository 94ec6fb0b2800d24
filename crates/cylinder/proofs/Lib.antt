-- The theorems, for whoever believes the definitions:
-- L and U of `sum_bounds` are right (sum_bounds_lem, sum_bounds_within); whoever places a slenderness or a term by another way has found the same (place_is, most_is)
pub mod SumBounds
pub mod Search
-- what the verdicts mean; what SCOPE says of the definitions; sums from outside
pub mod Verdict
pub mod Paper
pub mod Outside
-- The definitions in whole numbers: the same tests of slenderness, the same curves and terms
pub mod Agree
pub mod Curves
pub mod Like
-- Numbers by their tests: lawful, below 536, placed on the grid
pub mod Limits
pub mod Far
pub mod Placed
pub mod Lawful
-- Terms: factors fall, and slowly; so the formula at two neighbouring points of the grid bounds a term
pub mod Bounds
pub mod Branches
pub mod Curve1
pub mod Curve2
pub mod Falls
pub mod Slow

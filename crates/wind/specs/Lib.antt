-- To be believed, beside docs/SCOPE.md: Wind.
pub mod Wind
-- Nobody has to believe it, the same test in whole numbers, to compute with: `enough_agrees` (proofs/Agree.antt) has that it is the same.
pub mod WholeWind

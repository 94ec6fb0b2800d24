-- To be believed, beside docs/SCOPE.md: Fraction, Number, Ideal, Resistance, Exact, Sum.
pub mod Fraction
pub mod Number
pub mod Ideal
pub mod Resistance
pub mod Exact
pub mod Sum
-- Nobody has to believe it, what the search asks of a shell: `cylinder_within` (record's proofs/Checks.antt) has it of every record that breaks no check.
pub mod InLimits
-- Nobody has to believe these, the definitions in whole numbers, to compute with: proofs/Agree.antt and proofs/Curves.antt have that they are the same.
pub mod Cut
pub mod Factor
pub mod WholeIdeal
pub mod WholeCurves
pub mod WholeTerm
pub mod WholeStress
-- Nobody has to believe it, how L and U are found: `sum_bounds_lem` (proofs/SumBounds.antt) has that they are right.
pub mod Search

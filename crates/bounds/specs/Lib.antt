-- Nobody has to believe these, of which only contracts speak: `sum_bounds_lem` (cylinder's proofs/SumBounds.antt) has that the bounds are right.
pub mod Ready
pub mod Sides
pub mod Spot
pub mod Stresses

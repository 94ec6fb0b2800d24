-- The term of a stress over plain numbers: the branches of its slenderness, the yield stress, the stress as a fraction of kN/m² and the excess of the imperfection.
-- Nobody has to believe this: proofs/Terms.antt has that the terms of a shell are these.
use Rattle.std.specs.Prelude.{◌≡◌, ℕ, ◌*◌, ◌^◌, ◌<◌}
use Rattle.cylinder.specs.Cut.{Cut}
use Rattle.cylinder.specs.Factor.{Factor, times}
use Rattle.cylinder.specs.WholeCurves as curves
use Rattle.cylinder.specs.WholeTerm.{Term}
use Rattle.cylinder.specs.declared.Stress.{Stress}
use Rattle.cylinder.specs.declared.Stress.TheVariants.{Axial, Ring, Shear}
use Rattle.millionths.specs.declared.Power.{Power}
use Rattle.millionths.specs.declared.Power.TheVariants.{FiveQuarters, ThreeSquares}
use Rattle.term.specs.declared.Part.{Part}
use Rattle.term.specs.declared.Part.TheVariants.{Plateau, Line, Cubic, Quadratic}
use Rattle.term.specs.declared.Branches.{Branches}

-- the stresses num/den that are taken: num below 2⁵⁰ and den below 2³⁶, so that 11 num and 10,000 fy den fit a u64
abbrev pub SmallParts : ℕ → ℕ → Type 0
SmallParts num den = (num < 1125899906842624) × (den < 68719476736)

abbrev pub part_of : Part → curves.Part
part_of Plateau = curves.plateau
part_of Line = curves.line
part_of Cubic = curves.cubic
part_of Quadratic = curves.quadratic

-- the slenderness s lies in these branches: of κ1, and of κ2 with its partial factor
pub record Lies1 (s : Cut) (b : Branches) : Type 0 where
  pub part : part_of b.part ≡ curves.part1 s
  pub long : b.long ≡ curves.long s

pub record Lies2 (s : Cut) (b : Branches) : Type 0 where
  pub part : part_of b.part ≡ curves.part2 s
  pub long : b.long ≡ curves.long s
  pub near : b.near ≡ s.within 25 100
  pub far : b.far ≡ s.reaches 2 1

-- the factor of the resistance in these branches: κ1 for ring stress and shear, κ2 with its partial factor for axial stress
abbrev pub factor1 : Branches → ℕ → Factor
factor1 b e = times (curves.reduction1 (part_of b.part)) (curves.tolerance_factor b.long e)

abbrev pub factor2 : Branches → ℕ → Factor
factor2 b e = times (times (curves.reduction2 (part_of b.part)) (curves.tolerance_factor b.long e)) (curves.safety b.near b.far)

-- κ2 with its tolerance, without the partial factor
abbrev pub reduced_of : Branches → ℕ → Factor
reduced_of b e = times (curves.reduction2 (part_of b.part)) (curves.tolerance_factor b.long e)

abbrev pub factor_of : Stress → Branches → ℕ → Factor
factor_of Axial b e = factor2 b e
factor_of Ring b e = factor1 b e
factor_of Shear b e = factor1 b e

abbrev pub term_of : Stress → Branches → ℕ → ℕ → ℕ → ℕ → Term
term_of Axial b fy num den e = record { rise = 4; power = 5; top = (10000 * fy * den) ^ 5; load = (11 * num) ^ 5; factor = factor2 b e }
term_of Ring b fy num den e = record { rise = 4; power = 5; top = (10000 * fy * den) ^ 5; load = (11 * num) ^ 5; factor = factor1 b e }
term_of Shear b fy num den e = record { rise = 1; power = 2; top = (10000 * fy * den) ^ 2; load = 3 * (11 * num) ^ 2; factor = factor1 b e }

-- the power of a fraction that the term of a stress is
abbrev pub power_of : Stress → Power
power_of Axial = FiveQuarters
power_of Ring = FiveQuarters
power_of Shear = ThreeSquares

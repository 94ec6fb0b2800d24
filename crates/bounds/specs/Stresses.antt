-- The three stresses by their kind: one rule for each of slenderness, term and bounds, over the whole-number forms of cylinder's specs.
-- Nobody has to believe this: cylinder's proofs/SumBounds.antt has that the bounds are right.
use Rattle.std.specs.Prelude.{◌≡◌, ℕ, Bool, ◌+◌, ltb}
use Rattle.cylinder.specs.declared.ByStress.{ByStress}
use Rattle.cylinder.specs.declared.Cylinder.{Cylinder}
use Rattle.cylinder.specs.declared.Stress.{Stress}
use Rattle.cylinder.specs.declared.Stress.TheVariants.{Axial, Ring, Shear}
use Rattle.cylinder.specs.Fraction.{Fraction, ◌//◌}
use Rattle.algebra.specs.Choice.{pick}
use Rattle.cylinder.specs.Cut.{Cut}
use Rattle.cylinder.specs.WholeIdeal.{axial_cut, ring_cut, shear_cut}
use Rattle.cylinder.specs.WholeCurves as curves
use Rattle.cylinder.specs.WholeTerm.{Term}
use Rattle.cylinder.specs.WholeStress.{axial_term, ring_term, shear_term}
use Rattle.cylinder.specs.Search.{grid, place, most, Pair, term_bounds, sum_bounds}
use Rattle.bounds.specs.declared.Limits.{Limits}
use Rattle.term.specs.declared.Branches.{Branches}
use Rattle.term.specs.declared.Load.{Load}
use Rattle.bounds.specs.declared.Bounds.{Bounds}
pub use Rattle.term.specs.TermOf.{part_of}

-- the branches that the answers at the limits give: of κ1, and of κ2
abbrev pub part1_of : Limits → curves.Part
part1_of l = pick l.within_two_fifths curves.plateau (pick l.reaches_six_fifths curves.quadratic curves.line)

abbrev pub part2_of : Limits → curves.Part
part2_of l = pick l.within_quarter curves.plateau (pick l.within_one curves.line (pick l.within_three_halves curves.cubic curves.quadratic))

abbrev pub part_for : Stress → Limits → curves.Part
part_for Axial l = part2_of l
part_for Ring l = part1_of l
part_for Shear l = part1_of l

pub record Reads (kind : Stress) (l : Limits) (b : Branches) : Type 0 where
  pub part : part_of b.part ≡ part_for kind l
  pub long : b.long ≡ l.reaches_three_halves
  pub near : b.near ≡ l.within_quarter
  pub far : b.far ≡ l.reaches_two

abbrev pub fraction_of : Load → Fraction
fraction_of l = l.num // l.den

abbrev pub slenderness_of : Stress → Cylinder → Cut
slenderness_of Axial s = axial_cut s
slenderness_of Ring s = ring_cut s
slenderness_of Shear s = shear_cut s

abbrev pub term_for : Stress → Cylinder → Fraction → Term
term_for Axial s σ = axial_term s σ
term_for Ring s σ = ring_term s σ
term_for Shear s σ = shear_term s σ

-- the term of a stress above 0, from below, in millionths
abbrev pub low_of : Stress → Cylinder → ℕ → ℕ → ℕ
low_of kind s num den = let c : Cut = slenderness_of kind s in most (term_for kind s (num // den)) (place c (grid c)) (grid c)

abbrev pub pair_of : Stress → Cylinder → Load → Pair
pair_of kind s l = let c : Cut = slenderness_of kind s in term_bounds (grid c) l.num c (term_for kind s (fraction_of l))

-- the stresses above 0
abbrev pub loaded : ByStress Load → ByStress Bool
loaded l = record { axial = ltb 0 l.axial.num; ring = ltb 0 l.ring.num; shear = ltb 0 l.shear.num }

-- bounds as cylinder's Search has them
abbrev pub as_pair : Bounds → Pair
as_pair b = record { low = b.low; high = b.high }

-- the terms of three stresses together, in millionths
abbrev pub terms_of : Cylinder → ByStress Load → Pair
terms_of s l =
    let a : Pair = pair_of Axial s l.axial in
    let r : Pair = pair_of Ring s l.ring in
    let h : Pair = pair_of Shear s l.shear in
    record { low = a.low + r.low + h.low; high = a.high + r.high + h.high }

-- L and U under three stresses
abbrev pub sum_of : ℕ → Cylinder → ByStress Load → Pair
sum_of more s l = sum_bounds more s (fraction_of l.axial) (fraction_of l.ring) (fraction_of l.shear)

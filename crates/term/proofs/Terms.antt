-- The terms of a shell's three stresses are those of plain numbers, in the branches of their slendernesses. Assumes nothing.
use mathlib.Core.Path.{◌≡◌}
use Rattle.cylinder.specs.declared.Cylinder.{Cylinder}
use Rattle.cylinder.specs.Fraction.{Fraction}
use Rattle.cylinder.specs.WholeIdeal.{axial_cut, ring_cut, shear_cut}
use Rattle.cylinder.specs.WholeStress.{axial_term, ring_term, shear_term, excess}
use Rattle.cylinder.specs.declared.Stress.TheVariants.{Axial, Ring, Shear}
use Rattle.term.specs.declared.Branches.{Branches}
use Rattle.term.specs.TermOf.{term_of, Lies1, Lies2}

pub axial_is : (s : Cylinder) (σ : Fraction) (b : Branches) → Lies2 (axial_cut s) b → term_of Axial b s.yield_stress σ.num σ.den (excess s) ≡ axial_term s σ
axial_is s σ b o = rw (o.part, o.long, o.near, o.far)

pub ring_is : (s : Cylinder) (σ : Fraction) (b : Branches) → Lies1 (ring_cut s) b → term_of Ring b s.yield_stress σ.num σ.den (excess s) ≡ ring_term s σ
ring_is s σ b o = rw (o.part, o.long)

pub shear_is : (s : Cylinder) (τ : Fraction) (b : Branches) → Lies1 (shear_cut s) b → term_of Shear b s.yield_stress τ.num τ.den (excess s) ≡ shear_term s τ
shear_is s τ b o = rw (o.part, o.long)

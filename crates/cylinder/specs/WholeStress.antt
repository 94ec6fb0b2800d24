-- The terms of the three stresses, each a fraction of kN/m², in whole numbers.
-- Nobody has to believe this: proofs/Curves.antt has that their tests are those of Sum.
use Rattle.std.specs.Prelude.{ℕ, ◌*◌, ◌-◌, ◌^◌}
use Rattle.cylinder.specs.declared.Cylinder.{Cylinder}
use Rattle.cylinder.specs.Fraction.{Fraction}
use Rattle.cylinder.specs.WholeIdeal.{axial_cut, ring_cut, shear_cut}
use Rattle.cylinder.specs.WholeCurves.{factor1, factor2}
use Rattle.cylinder.specs.WholeTerm.{Term}

-- thousandths over the permitted imperfection
abbrev pub excess : Cylinder → ℕ
excess s = s.imperfection - 1000

-- (stress / R) to the power of 5/4, where R = κ fy / (11/10) and 1 N/mm² is 1000 kN/m²
abbrev pub axial_term : Cylinder → Fraction → Term
axial_term s σ =
    record { rise = 4; power = 5; top = (10000 * s.yield_stress * σ.den) ^ 5; load = (11 * σ.num) ^ 5; factor = factor2 (axial_cut s) (excess s) }

abbrev pub ring_term : Cylinder → Fraction → Term
ring_term s σ =
    record { rise = 4; power = 5; top = (10000 * s.yield_stress * σ.den) ^ 5; load = (11 * σ.num) ^ 5; factor = factor1 (ring_cut s) (excess s) }

-- (stress / R)², where R = κ fy / √3 / (11/10)
abbrev pub shear_term : Cylinder → Fraction → Term
shear_term s τ =
    record { rise = 1; power = 2; top = (10000 * s.yield_stress * τ.den) ^ 2; load = 3 * (11 * τ.num) ^ 2; factor = factor1 (shear_cut s) (excess s) }

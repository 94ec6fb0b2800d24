-- Laws for the code: the stresses of a plate as loads, and the bounds of the sum. Assumes nothing.
use mathlib.Core.Path.{◌≡◌}
use Prim.Native.Nat.{ℕ, ◌*◌}
use Rattle.cylinder.specs.declared.ByStress.{ByStress}
use Rattle.cylinder.specs.declared.Cylinder.{Cylinder}
use Rattle.cylinder.specs.Fraction.{◌//◌}
use Rattle.cylinder.specs.Search.{sum_bounds}
use Rattle.term.specs.declared.Load.{Load}
use Rattle.bounds.specs.Stresses.{sum_of}
use Rattle.plates.specs.Plates.{stress_of}

-- l is the stress of a force on a wall
abbrev pub StressIs : Load → ℕ → ℕ → Type 0
StressIs l force t = (l.num ≡ 100000 * force) × (l.den ≡ t)

pub bounds_same : {s s' : Cylinder} (l : ByStress Load) (x y z : ℕ) {t : ℕ} → s ≡ s' → StressIs l.axial x t → StressIs l.ring y t → StressIs l.shear z t →
    sum_of 0 s l ≡ sum_bounds 0 s' (stress_of x t) (stress_of y t) (stress_of z t)
bounds_same l x y z e (xn, xd) (yn, yd) (zn, zd) = λ i. sum_bounds 0 (e i) (xn i // xd i) (yn i // yd i) (zn i // zd i)

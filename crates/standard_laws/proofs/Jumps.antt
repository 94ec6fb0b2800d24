-- SCOPE 4.8, the steps of the curves at S = 0.25, 0.4, 1.2 (upward) and 2: the formulas of the branches on either side, both worked at the limit.
use mathlib.Core.Path.{◌≡◌, refl}
use mathlib.Core.Bool.{true, false}
use Prim.Native.Nat.{◌*◌, ◌≤◌}
use native.Mathlib.Omega.{arith}
use borrow.Author.Tests.{le-leb}
use Rattle.cylinder.specs.declared.Cylinder.{Cylinder}
use Rattle.cylinder.specs.Fraction.{Fraction, whole, tenths, hundredths, ◌at_most◌}
use Rattle.cylinder.specs.Number.{exactly}
use Rattle.cylinder.specs.Resistance.{branch1, branch2, κ1, κ2, γ2, tolerance, q}

-- the first is less than the second
abbrev Below : Fraction → Fraction → Type 0
Below f g = (g at_most f) ≡ false

abbrev Equal : Fraction → Fraction → Type 0
Equal f g = ((f at_most g) ≡ true) × ((g at_most f) ≡ true)

-- a curve at `limit`, in the branches of `near`
abbrev at1 : Fraction → Fraction → Fraction
at1 near limit = κ1 (branch1 (exactly near)) limit

abbrev at2 : Fraction → Fraction → Fraction
at2 near limit = κ2 (branch2 (exactly near)) limit

abbrev atγ : Fraction → Fraction → Fraction
atγ near limit = γ2 (branch2 (exactly near)) limit

pub κ2_jumps_0·25 : Below (at2 (hundredths 0_26) (hundredths 0_25)) (at2 (hundredths 0_25) (hundredths 0_25))
κ2_jumps_0·25 = refl

pub κ1_jumps_0·4 : Below (at1 (tenths 0_5) (tenths 0_4)) (at1 (tenths 0_4) (tenths 0_4))
κ1_jumps_0·4 = refl

-- upward
pub κ1_jumps_1·2 : Below (at1 (tenths 1_1) (tenths 1_2)) (at1 (tenths 1_2) (tenths 1_2))
κ1_jumps_1·2 = refl

pub γ2_jumps_2 : Below (atγ (tenths 1_9) (whole 2)) (atγ (whole 2) (whole 2))
γ2_jumps_2 = refl

-- and nowhere else: not κ2 at 1 and 1.5, not γ2 at 0.25, not the tolerance at 1.5
pub κ2_meets_1 : Equal (at2 (whole 1) (whole 1)) (at2 (tenths 1_1) (whole 1))
κ2_meets_1 = (refl, refl)

pub κ2_meets_1·5 : Equal (at2 (tenths 1_5) (tenths 1_5)) (at2 (tenths 1_6) (tenths 1_5))
κ2_meets_1·5 = (refl, refl)

pub γ2_meets_0·25 : Equal (atγ (hundredths 0_25) (hundredths 0_25)) (atγ (hundredths 0_26) (hundredths 0_25))
γ2_meets_0·25 = (refl, refl)

equal : (f g : Fraction) → f.num * g.den ≡ g.num * f.den → Equal f g
equal f g e = (le-leb (f.num * g.den) (g.num * f.den) (omega arith), le-leb (g.num * f.den) (f.num * g.den) (omega arith))

pub tolerance_meets_1·5 : (s : Cylinder) → s.imperfection ≤ 2000 → Equal (tolerance false (q s) (tenths 1_5)) (tolerance true (q s) (tenths 1_5))
tolerance_meets_1·5 s le = equal (tolerance false (q s) (tenths 1_5)) (tolerance true (q s) (tenths 1_5)) (omega arith)

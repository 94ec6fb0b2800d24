-- What the definitions say where the request says it in another way, or where it can be seen by hand.
use mathlib.Core.Path.{◌≡◌, refl, ap₂}
use mathlib.Core.Bool.{Bool, true, false}
use Prim.Native.Nat.{ℕ, ◌*◌, ◌^◌}
use native.Mathlib.Omega.{arith}
use Rattle.cylinder.specs.Fraction.{Fraction, ◌//◌, whole, tenths, hundredths, thousandths, ◌⊘◌, ◌at_most◌}
use Rattle.cylinder.specs.Number.{exactly}
use Rattle.cylinder.specs.declared.Cylinder.{Cylinder}
use Rattle.cylinder.specs.Resistance.{κ2, tolerance, γ2, q}
use Rattle.cylinder.specs.Sum.{axial_test}
use lib.Dec.{leb}
use Rattle.pressure.specs.GainSum.{axial_gain_test}
use Rattle.pressure.specs.Gain.{BranchG, P, power38, gain}
use Rattle.pressure.specs.GainTest.{A, fits}

-- at S = 0.7 the gain is 1: its denominator is its numerator
at_0·7 : (b c : ℕ) → (gain ((exactly (tenths 0_7)).reaches (whole 1)) (tenths 0_7) (b // c)).num ≡ (gain ((exactly (tenths 0_7)).reaches (whole 1)) (tenths 0_7) (b // c)).den
at_0·7 b c = omega arith

-- with no pressure P is 0 and the gain 1
no_pressure : (h : Fraction) → (gain ((exactly (whole 1)).reaches (whole 1)) h (whole 0)).num ≡ (gain ((exactly (whole 1)).reaches (whole 1)) h (whole 0)).den
no_pressure h = omega arith

-- at S = 0.85 half of the added part is there: with P^0.38 = 1 the gain is 1 + 1.2 · 0.85/2 = 1.51
half : (gain ((exactly (hundredths 0_85)).reaches (whole 1)) (hundredths 0_85) (whole 1)).num * 100 ≡ 151 * (gain ((exactly (hundredths 0_85)).reaches (whole 1)) (hundredths 0_85) (whole 1)).den
half = refl

-- at S = 1 all of it is: with P^0.38 = 1 the gain is 2.2, by either formula
one : (gain ((exactly (whole 1)).reaches (whole 1)) (whole 1) (whole 1)).num * 10 ≡ 22 * (gain ((exactly (whole 1)).reaches (whole 1)) (whole 1) (whole 1)).den
one = refl

-- 2^0.38 is 1.3013..; 1^0.38 is 1
power_of_2 : ((power38 (whole 2)).reaches (13013 // 10000) ≡ true) × ((power38 (whole 2)).within (13014 // 10000) ≡ true)
power_of_2 = (refl, refl)

power_of_1 : ((power38 (whole 1)).reaches (whole 1) ≡ true) × ((power38 (whole 1)).within (whole 1) ≡ true)
power_of_1 = (refl, refl)

abbrev shell_b : Cylinder
shell_b = record { radius = 5000; wall = 1000; length = 10000; modulus = 210000; yield_stress = 240; edges = 12; imperfection = 1000 }

-- shell B has r/t = 1000 and E = 210,000: at 21,000 N/m² P is 0.021/210,000 · 1000² = 0.1, and the test's left side is 0.021/240 · 1000 = 0.0875
P-of-B : (P shell_b 21000 at_most tenths 0_1 ≡ true) × (tenths 0_1 at_most P shell_b 21000 ≡ true)
P-of-B = (refl, refl)

A-of-B : (A shell_b 21000 at_most (875 // 10000) ≡ true) × ((875 // 10000) at_most A shell_b 21000 ≡ true)
A-of-B = (refl, refl)

-- the test at κ = 0 is A ≤ 1/2; at κ = 1 it is A ≤ 0: 0.5 √0.25 - 0.25. Above 1 nothing fits, and so where 0.75 κ² is over 1.
fits_0 : (fits (tenths 0_5) (whole 0) ≡ true) × (fits (thousandths 0_501) (whole 0) ≡ false)
fits_0 = (refl, refl)

fits_1 : (fits (whole 0) (whole 1) ≡ true) × (fits (thousandths 0_001) (whole 1) ≡ false)
fits_1 = (refl, refl)

fits_above : (fits (whole 0) (hundredths 1_01) ≡ false) × (fits (whole 0) (whole 2) ≡ false)
fits_above = (refl, refl)

-- with imperfections as permitted the tolerance is 1: its denominator is its numerator
no_tolerance : (from_1·5 : Bool) (g : Fraction) → (tolerance from_1·5 (thousandths 1_000) g).num ≡ (tolerance from_1·5 (thousandths 1_000) g).den
no_tolerance true g = refl
no_tolerance false g = omega arith

-- ---- κ2 multiplied by the gain, or the stress divided by it: the same term
module _ (s : Cylinder) (σ : Fraction) (b n : ℕ) (B : BranchG) (g h z : Fraction) where
  pub gain_test : axial_gain_test s σ b n B g h z ≡ axial_test s (σ ⊘ gain B.from_1 h z) b n B.curves g
  gain_test =
      alike σ.num σ.den (κ2 B.curves g).num (κ2 B.curves g).den (tolerance B.curves.from_1·5 (q s) g).num
      (tolerance B.curves.from_1·5 (q s) g).den (gain B.from_1 h z).num (gain B.from_1 h z).den s.yield_stress (γ2 B.curves g).num
      (γ2 B.curves g).den
    where
      alike : (N D k k' t t' G G' f c c' : ℕ) →
          leb (b ^ 4 * (D * (1000 * (k * t * G * f * c'))) ^ 5) ((N * (1 * (k' * t' * G' * 1 * c))) ^ 5 * n ^ 4)
          ≡ leb (b ^ 4 * (D * G * (1000 * (k * t * f * c'))) ^ 5) ((N * G' * (1 * (k' * t' * 1 * c))) ^ 5 * n ^ 4)
      alike N D k k' t t' G G' f c c' = ap₂ (λ (x y : ℕ). leb (b ^ 4 * x ^ 5) (y ^ 5 * n ^ 4)) (omega arith) (omega arith)

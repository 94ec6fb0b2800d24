-- SCOPE 25.4 to 25.6: the sum with the gain, the exact sum of a line with internal pressure, and what L and U of such a line claim.
use Rattle.std.specs.Prelude.{ℕ, ◌+◌, ◌<◌, ◌≤◌, Bool, true, ◌⊎◌, ◌≡◌}
use Rattle.cylinder.specs.declared.Cylinder.{Cylinder}
use Rattle.cylinder.specs.Fraction.{Fraction, ◌//◌, whole, ◌⊗◌, ◌⊘◌}
use Rattle.cylinder.specs.Number.{exactly, power_1·25}
use Rattle.cylinder.specs.Resistance.{branch2, axial_s, γ2, q}
use Rattle.cylinder.specs.Ideal.{fy}
use Rattle.cylinder.specs.Exact.{AtMost, AtLeast, Encloses, Close, SumOver}
use Rattle.cylinder.specs.Sum.{RingReaches, ShearReaches, Over}
use Rattle.pressure.specs.Gain.{P38, BranchG, branch_g, Acts}
use Rattle.pressure.specs.GainTest.{κ, Broken, Doubt}

-- (4), (9) and (53): R for axial stress, with κ2 multiplied by the gain
abbrev pub axial_gain_r : Cylinder → BranchG → Fraction → Fraction → Fraction → Fraction
axial_gain_r s B g h z = κ (q s) B g h z ⊗ fy s ⊘ γ2 B.curves g

-- (σx/R)^1.25 reaches b/N, in given branches, at given fractions
abbrev pub axial_gain_test : Cylinder → Fraction → ℕ → ℕ → BranchG → Fraction → Fraction → Fraction → Bool
axial_gain_test s σ b N B g h z = (power_1·25 (σ ⊘ (whole 1000 ⊗ axial_gain_r s B g h z))).reaches (b // N)

-- the axial term with the gain reaches b/N: for a stress of 0 only 0; for another, if the formula does somewhere: what falls with S at a fraction g that
-- S reaches, in the branches of the curves; the gain, which rises, at h and z from S and P^0.38 upward, h in the branches of the curves and of the gain
pub data AxialGainReaches (s : Cylinder) (p : ℕ) (σ : Fraction) (b N : ℕ) : Type 0 where
  unloaded : σ.num ≡ 0 → b ≡ 0 → AxialGainReaches s p σ b N
  loaded : 0 < σ.num → (g h z : Fraction) → 0 < g.den → 0 < h.den → 0 < z.den → (axial_s s).reaches g ≡ true → (axial_s s).within h ≡ true →
      (P38 s p).within z ≡ true → branch2 (exactly g) ≡ branch2 (axial_s s) → branch_g (exactly h) ≡ branch_g (axial_s s) →
      axial_gain_test s σ b N (branch_g (axial_s s)) g h z ≡ true → AxialGainReaches s p σ b N

-- (50) with the gain is over x/y
abbrev pub OverGain : Cylinder → ℕ → Fraction → Fraction → Fraction → ℕ → ℕ → Type 0
OverGain s p σx σφ τ = SumOver (AxialGainReaches s p σx) (RingReaches s σφ) (ShearReaches s τ)

-- the exact sum of a line is over x/y: that with the gain where the pressure acts and the test is passed, that without it elsewhere; the test reads κ at
-- this ratio of imperfections
pub record LineOver (s : Cylinder) (p : ℕ) (ratio σx σφ τ : Fraction) (x y : ℕ) : Type 0 where
  pub with_gain : Acts s p → ¬ (Broken s p ratio) → OverGain s p σx σφ τ x y
  pub without_gain : (¬ (Acts s p)) ⊎ Broken s p ratio → Over s σx σφ τ x y

-- what L and U of a line claim: they enclose its exact sum; they are close, except in doubt, and there L is at most 10,000 and U over it only if the sum with the
-- gain is at most 1.01 and that without it at least 0.99
pub record BoundsUnder (s : Cylinder) (p : ℕ) (ratio σx σφ τ : Fraction) (L U : ℕ) : Type 0 where
  pub encloses : Encloses (LineOver s p ratio σx σφ τ) L U
  pub close : Close L U ⊎ Doubt s p ratio
  pub undecided : L + 2 < U → L ≤ 10000 → 10000 < U → AtMost (OverGain s p σx σφ τ) 101 100 × AtLeast (Over s σx σφ τ) 99 100

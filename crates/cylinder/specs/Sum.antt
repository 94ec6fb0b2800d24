-- SCOPE 5.1, 5.5 and 5.6: DIN 18800-4, element 426, condition (50). The single checks (14) to (16), which the standard asks for
-- too, follow from a sum of at most 1 (crate standard_laws). Stresses are fractions of kN/m².
use Rattle.std.specs.Prelude.{ℕ, ◌<◌, Bool, true, ◌≡◌}
use Rattle.cylinder.specs.declared.Cylinder.{Cylinder}
use Rattle.cylinder.specs.Fraction.{Fraction, ◌//◌, whole, ◌⊗◌, ◌⊘◌, ◌↑◌, ◌at_most◌}
use Rattle.cylinder.specs.Number.{Number, exactly, power_1·25}
use Rattle.cylinder.specs.Resistance.{Branch1, Branch2, branch1, branch2, axial_s, ring_s, shear_s, axial_r, ring_r, shear_r_square}
use Rattle.cylinder.specs.Exact.{SumOver}

-- ---- the formulas of the terms, in given branches, at g: each gives a term that reaches b/N

-- (σx/R)^1.25; 1 N/mm² is 1000 kN/m²
abbrev pub axial_test : Cylinder → Fraction → ℕ → ℕ → Branch2 → Fraction → Bool
axial_test s σ b N br g = (power_1·25 (σ ⊘ (whole 1000 ⊗ axial_r s br g))).reaches (b // N)

-- (σφ/R)^1.25
abbrev pub ring_test : Cylinder → Fraction → ℕ → ℕ → Branch1 → Fraction → Bool
ring_test s σ b N br g = (power_1·25 (σ ⊘ (whole 1000 ⊗ ring_r s br g))).reaches (b // N)

-- (τ/R)², which is τ² / (1000² R²)
abbrev pub shear_test : Cylinder → Fraction → ℕ → ℕ → Branch1 → Fraction → Bool
shear_test s τ b N br g = b // N at_most τ ↑ 2 ⊘ (whole 1000 ↑ 2 ⊗ shear_r_square s br g)

-- ---- a term reaches b/N: for a stress of 0 only 0; for another, if the formula does at some fraction g that S reaches, in the branches of S

pub data Reaches (Branch : Type 0) (branch : Number → Branch) (S : Number) (stress : Fraction) (test : ℕ → ℕ → Branch → Fraction → Bool) (b N : ℕ) : Type 0 where
  unloaded : stress.num ≡ 0 → b ≡ 0 → Reaches Branch branch S stress test b N
  loaded : 0 < stress.num → (g : Fraction) → 0 < g.den → S.reaches g ≡ true → branch (exactly g) ≡ branch S → test b N (branch S) g ≡ true →
      Reaches Branch branch S stress test b N

abbrev pub AxialReaches : Cylinder → Fraction → ℕ → ℕ → Type 0
AxialReaches s σ = Reaches Branch2 branch2 (axial_s s) σ (axial_test s σ)

abbrev pub RingReaches : Cylinder → Fraction → ℕ → ℕ → Type 0
RingReaches s σ = Reaches Branch1 branch1 (ring_s s) σ (ring_test s σ)

abbrev pub ShearReaches : Cylinder → Fraction → ℕ → ℕ → Type 0
ShearReaches s τ = Reaches Branch1 branch1 (shear_s s) τ (shear_test s τ)

-- ---- the sum (50) is over x/y

abbrev pub Over : Cylinder → Fraction → Fraction → Fraction → ℕ → ℕ → Type 0
Over s σx σφ τ = SumOver (AxialReaches s σx) (RingReaches s σφ) (ShearReaches s τ)

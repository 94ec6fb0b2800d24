-- SCOPE 25.2: internal pressure. DIN 18800-4, element 429, (53): κ2 is multiplied by the gain 1 + 1.2 S P^0.38.
use Rattle.std.specs.Prelude.{ℕ, ◌<◌, Bool, true, false, ◌≡◌}
use Rattle.algebra.specs.Choice.{pick}
use Rattle.cylinder.specs.declared.Cylinder.{Cylinder}
use Rattle.cylinder.specs.Fraction.{Fraction, ◌//◌, whole, tenths, ◌⊕◌, ◌⊖◌, ◌⊗◌, ◌⊘◌, ◌↑◌, ◌at_most◌}
use Rattle.cylinder.specs.Number.{Number}
use Rattle.cylinder.specs.Ideal.{E, r/t, axial_short}
use Rattle.cylinder.specs.Resistance.{Branch2, branch2, axial_s}

-- the internal pressure of p N/m², in N/mm²
abbrev pub inner : ℕ → Fraction
inner p = p // 1000000

-- P = (p/E) (r/t)²
abbrev pub P : Cylinder → ℕ → Fraction
P s p = inner p ⊘ E s ⊗ r/t s ↑ 2

-- f^0.38: its 50th power is the 19th power of f
abbrev pub power38 : Fraction → Number
power38 f = record { reaches = λ x. x ↑ 50 at_most f ↑ 19; within = λ x. f ↑ 19 at_most x ↑ 50 }

-- P^0.38
abbrev pub P38 : Cylinder → ℕ → Number
P38 s p = power38 (P s p)

-- the branches of the curves and of the gain
pub record BranchG : Type 0 where
  pub curves : Branch2
  pub from_1 : Bool

abbrev pub branch_g : Number → BranchG
branch_g S = record { curves = branch2 S; from_1 = S.reaches (whole 1) }

-- (53), with S at h and P^0.38 at z: 1 + 1.2 S P^0.38; where S is below 1, what is added comes in by (S - 0.7)/0.3
abbrev pub gain : Bool → Fraction → Fraction → Fraction
gain from_1 h z =
    pick from_1 (whole 1 ⊕ tenths 1_2 ⊗ h ⊗ z) (whole 1 ⊕ tenths 1_2 ⊗ h ⊗ z ⊗ (h ⊖ tenths 0_7) ⊘ tenths 0_3)

-- the pressure acts: there is one, the shell is short for axial stress, (27), and S is above 0.7 (decision 85 has what the standard leaves out)
pub record Acts (s : Cylinder) (p : ℕ) : Type 0 where
  pub pressed : 0 < p
  pub short : axial_short s ≡ true
  pub slender : (axial_s s).within (tenths 0_7) ≡ false

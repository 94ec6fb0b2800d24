-- SCOPE 4: DIN 18800-4, elements 202 to 206 and 305.
-- The slenderness S is a number. The curves are worked in fractions: in given branches, at a fraction g.
use Rattle.std.specs.Prelude.{max, Bool}
use Rattle.cylinder.specs.declared.Cylinder.{Cylinder}
use Rattle.cylinder.specs.Fraction.{Fraction, whole, tenths, hundredths, thousandths, ◌⊕◌, ◌⊖◌, ◌⊗◌, ◌⊘◌, ◌↑◌}
use Rattle.cylinder.specs.Number.{Number}
use Rattle.algebra.specs.Choice.{pick}
use Rattle.cylinder.specs.Ideal.{fy, ideal_axial, ideal_ring, ideal_shear_square}

-- ---- slenderness, element 202

-- (1), (2): S² = fy over the stress. S reaches g if the stress is at most fy/g².
abbrev pub slender : Fraction → Number → Number
slender f stress = record { reaches = λ g. stress.within (f ⊘ g ↑ 2); within = λ g. stress.reaches (f ⊘ g ↑ 2) }

-- (3): S² = fy over √3 times the stress, so S⁴ = fy² over 3 times its square
abbrev pub slender_shear : Fraction → Number → Number
slender_shear f square = record { reaches = λ g. square.within (f ↑ 2 ⊘ (whole 3 ⊗ g ↑ 4)); within = λ g. square.reaches (f ↑ 2 ⊘ (whole 3 ⊗ g ↑ 4)) }

abbrev pub axial_s : Cylinder → Number
axial_s s = slender (fy s) (ideal_axial s)

abbrev pub ring_s : Cylinder → Number
ring_s s = slender (fy s) (ideal_ring s)

abbrev pub shear_s : Cylinder → Number
shear_s s = slender_shear (fy s) (ideal_shear_square s)

-- ---- the branches in which a number lies: its answers at the limits of the curves

-- those of κ1 and the tolerance
pub record Branch1 : Type 0 where
  pub up_to_0·4 : Bool
  pub from_1·2 : Bool
  pub from_1·5 : Bool

abbrev pub branch1 : Number → Branch1
branch1 S = record { up_to_0·4 = S.within (tenths 0_4); from_1·2 = S.reaches (tenths 1_2); from_1·5 = S.reaches (tenths 1_5) }

-- those of κ2, the tolerance and γ2
pub record Branch2 : Type 0 where
  pub up_to_0·25 : Bool
  pub up_to_1 : Bool
  pub up_to_1·5 : Bool
  pub from_1·5 : Bool
  pub from_2 : Bool

abbrev pub branch2 : Number → Branch2
branch2 S =
    record {
      up_to_0·25 = S.within (hundredths 0_25);
      up_to_1 = S.within (whole 1);
      up_to_1·5 = S.within (tenths 1_5);
      from_1·5 = S.reaches (tenths 1_5);
      from_2 = S.reaches (whole 2);
    }

-- ---- reduction, element 204

-- (7), ring and shear: 1 for S ≤ 0.4; 0.65/S² from 1.2; 1.274 - 0.686 S between. Decision 4: no (7d) to (7g).
abbrev pub κ1 : Branch1 → Fraction → Fraction
κ1 br g = pick br.up_to_0·4 (whole 1) (pick br.from_1·2 (hundredths 0_65 ⊘ g ↑ 2) (thousandths 1_274 ⊖ thousandths 0_686 ⊗ g))

-- (8), axial: 1 for S ≤ 0.25; 1.233 - 0.933 S up to 1; 0.3/S³ up to 1.5; 0.2/S² above. Decision 3: no upper end of (8d).
abbrev pub κ2 : Branch2 → Fraction → Fraction
κ2 br g =
    pick br.up_to_0·25 (whole 1)
    (pick br.up_to_1 (thousandths 1_233 ⊖ thousandths 0_933 ⊗ g)
    (pick br.up_to_1·5 (tenths 0_3 ⊘ g ↑ 3) (tenths 0_2 ⊘ g ↑ 2)))

-- ---- tolerance, element 305

-- the ratio q of found to permitted imperfection: a/1000, and 1 for a below 1000
abbrev pub q : Cylinder → Fraction
q s = thousandths (max 1000 s.imperfection)

-- (23): 1.5 - 0.5 q from 1.5; 1 - (S/3) (q - 1) below
abbrev pub tolerance : Bool → Fraction → Fraction → Fraction
tolerance from_1·5 q g = pick from_1·5 (tenths 1_5 ⊖ tenths 0_5 ⊗ q) (whole 1 ⊖ g ⊘ whole 3 ⊗ (q ⊖ whole 1))

-- ---- partial factor, element 206

-- (12), ring and shear
abbrev pub γ1 : Fraction
γ1 = tenths 1_1

-- (13), axial: 1.1 for S ≤ 0.25; 1.45 from 2; 1.1 (1 + 0.318 (S - 0.25)/1.75) between. Decision 12: 2 itself has 1.45.
abbrev pub γ2 : Branch2 → Fraction → Fraction
γ2 br g =
    pick br.up_to_0·25 (tenths 1_1)
    (pick br.from_2 (hundredths 1_45) (tenths 1_1 ⊗ (whole 1 ⊕ thousandths 0_318 ⊗ (g ⊖ hundredths 0_25) ⊘ hundredths 1_75)))

-- ---- the factors reduced by the tolerance, "red κ" of (23)

abbrev pub reducedκ1 : Cylinder → Branch1 → Fraction → Fraction
reducedκ1 s br g = κ1 br g ⊗ tolerance br.from_1·5 (q s) g

abbrev pub reducedκ2 : Cylinder → Branch2 → Fraction → Fraction
reducedκ2 s br g = κ2 br g ⊗ tolerance br.from_1·5 (q s) g

-- ---- design resistance R in N/mm², elements 203 and 205

-- (4), (9): κ fy over the factor
abbrev pub axial_r : Cylinder → Branch2 → Fraction → Fraction
axial_r s br g = reducedκ2 s br g ⊗ fy s ⊘ γ2 br g

-- (5), (10)
abbrev pub ring_r : Cylinder → Branch1 → Fraction → Fraction
ring_r s br g = reducedκ1 s br g ⊗ fy s ⊘ γ1

-- (6), (11): the square, that of κ fy/√3 over the factor. Decision 11: the standard prints κ = fy/√3.
abbrev pub shear_r_square : Cylinder → Branch1 → Fraction → Fraction
shear_r_square s br g = reducedκ1 s br g ↑ 2 ⊗ (fy s ↑ 2 ⊘ whole 3) ⊘ γ1 ↑ 2

-- SCOPE 25.3 and 27.1: the test by which the gain applies, (p/fy)(r/t) ≤ 0.5 √(1 - 0.75 κ²) - 0.25 κ, what its κ is by either order, and when it is in doubt.
use Rattle.std.specs.Prelude.{ℕ, ◌<◌, Bool, true, false, ◌≡◌}
use Rattle.cylinder.specs.declared.Cylinder.{Cylinder}
use Rattle.cylinder.specs.Fraction.{Fraction, whole, hundredths, thousandths, ◌⊕◌, ◌⊖◌, ◌⊗◌, ◌⊘◌, ◌↑◌, ◌at_most◌}
use Rattle.cylinder.specs.Number.{exactly}
use Rattle.cylinder.specs.Ideal.{fy, r/t}
use Rattle.cylinder.specs.Resistance.{κ2, tolerance, q, axial_s}
use Rattle.pressure.specs.declared.Order.{Order}
use Rattle.pressure.specs.declared.Order.TheVariants.{ToleranceFirst, PressureFirst}
use Rattle.pressure.specs.Gain.{inner, P38, BranchG, branch_g, gain, Acts}

-- the left side, (p/fy) (r/t)
abbrev pub A : Cylinder → ℕ → Fraction
A s p = inner p ⊘ fy s ⊗ r/t s

-- a ≤ 0.5 √(1 - 0.75 x²) - 0.25 x, that is (a + x/4)² ≤ (1 - 0.75 x²)/4. Where 0.75 x² is over 1, the right side is 0 and the left is not.
abbrev pub fits : Fraction → Fraction → Bool
fits a x = (a ⊕ x ⊘ whole 4) ↑ 2 at_most (whole 1 ⊖ hundredths 0_75 ⊗ x ↑ 2) ⊘ whole 4

-- a is at least 1/1000 over that: (1 - 0.75 x²)/4 ≤ (a + x/4 - 1/1000)². So it is where 0.75 x² is over 1, and there is no doubt there.
abbrev pub exceeds : Fraction → Fraction → Bool
exceeds a x = (whole 1 ⊖ hundredths 0_75 ⊗ x ↑ 2) ⊘ whole 4 at_most (a ⊕ x ⊘ whole 4 ⊖ thousandths 1) ↑ 2

-- κ2 with tolerance and gain: what falls with S at g, the gain at h and z. The ratio is that of found to permitted imperfection; for R it is the
-- cylinder's own, `q` (Resistance), and for the test the one below.
abbrev pub κ : Fraction → BranchG → Fraction → Fraction → Fraction → Fraction
κ ratio B g h z = κ2 B.curves g ⊗ tolerance B.curves.from_1·5 ratio g ⊗ gain B.from_1 h z

-- the ratio at which the test reads κ: with tolerance the cylinder's own; with pressure first it is 1, and so is the tolerance then (`no_tolerance`, proofs/Paper.antt)
abbrev pub test_ratio : Order → Cylinder → Fraction
test_ratio ToleranceFirst s = q s
test_ratio PressureFirst s = thousandths 1_000

-- κ is at least its value here: what falls with S at g, from S upward, the gain at h and z, which S and P^0.38 reach; all in the branches of S
pub record FromBelow (s : Cylinder) (p : ℕ) : Type 0 where
  pub g : Fraction
  pub h : Fraction
  pub z : Fraction
  pub g_den : 0 < g.den
  pub h_den : 0 < h.den
  pub z_den : 0 < z.den
  pub g_above : (axial_s s).within g ≡ true
  pub h_below : (axial_s s).reaches h ≡ true
  pub z_below : (P38 s p).reaches z ≡ true
  pub g_inside : branch_g (exactly g) ≡ branch_g (axial_s s)
  pub h_inside : branch_g (exactly h) ≡ branch_g (axial_s s)

-- κ is at most its value here: the other way round
pub record FromAbove (s : Cylinder) (p : ℕ) : Type 0 where
  pub g : Fraction
  pub h : Fraction
  pub z : Fraction
  pub g_den : 0 < g.den
  pub h_den : 0 < h.den
  pub z_den : 0 < z.den
  pub g_below : (axial_s s).reaches g ≡ true
  pub h_above : (axial_s s).within h ≡ true
  pub z_above : (P38 s p).within z ≡ true
  pub g_inside : branch_g (exactly g) ≡ branch_g (axial_s s)
  pub h_inside : branch_g (exactly h) ≡ branch_g (axial_s s)

abbrev pub lower : (s : Cylinder) (p : ℕ) → Fraction → FromBelow s p → Fraction
lower s p ratio u = κ ratio (branch_g (axial_s s)) u.g u.h u.z

abbrev pub upper : (s : Cylinder) (p : ℕ) → Fraction → FromAbove s p → Fraction
upper s p ratio u = κ ratio (branch_g (axial_s s)) u.g u.h u.z

-- the test is broken: at some bound of κ from below, and so at κ, since its right side falls as κ grows. A test that is broken at κ is broken at some bound, since
-- the bounds come as near to κ as one likes.
pub record Broken (s : Cylinder) (p : ℕ) (ratio : Fraction) : Type 0 where
  pub bound : FromBelow s p
  pub breaks : fits (A s p) (lower s p ratio bound) ≡ false

-- SCOPE 27.2: the gain is lost by pressure first: the imperfections are over what is permitted, and the test is passed on κ with tolerance and not on κ without it
pub record Loses (s : Cylinder) (p : ℕ) : Type 0 where
  pub acts : Acts s p
  pub dented : 1000 < s.imperfection
  pub kept : ¬ (Broken s p (test_ratio ToleranceFirst s))
  pub lost : Broken s p (test_ratio PressureFirst s)

-- the test is in doubt, its two sides less than 1/1000 apart: with 1/1000 more on the left it is broken, seen at a bound of κ from below, and the left is not 1/1000 or
-- more over the right, seen at a bound from above
pub record Doubt (s : Cylinder) (p : ℕ) (ratio : Fraction) : Type 0 where
  pub acts : Acts s p
  pub low : FromBelow s p
  pub breaks : fits (A s p ⊕ thousandths 1) (lower s p ratio low) ≡ false
  pub high : FromAbove s p
  pub keeps : exceeds (A s p) (upper s p ratio high) ≡ false

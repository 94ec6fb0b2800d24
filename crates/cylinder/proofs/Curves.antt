-- In the branches of a number the curves of Resistance at p/q are the factors in whole numbers, and the tests of Sum are `formula`.
use mathlib.Core.Path.{◌≡◌, refl, ap, ap₂, ◌∙◌}
use mathlib.Core.Bool.{Bool, true, false}
use Prim.Native.Nat.{ℕ, ◌*◌, ◌-◌, ◌^◌, ◌≤◌, ◌<◌, max}
use native.Mathlib.Omega.{arith}
use lib.Dec.{leb, lit<}
use borrow.Author.Tests.{leb-false}
use Rattle.cylinder.specs.declared.Cylinder.{Cylinder}
use Rattle.cylinder.specs.Fraction.{Fraction, ◌//◌, whole, tenths, hundredths, thousandths, ◌⊕◌, ◌⊖◌, ◌⊗◌, ◌⊘◌, ◌↑◌, ◌at_most◌}
use Rattle.algebra.specs.Choice.{pick}
use Rattle.cylinder.specs.Resistance.{Branch2, branch1, branch2, κ1, κ2, tolerance, q, γ2}
use Rattle.cylinder.specs.Sum.{axial_test, ring_test, shear_test}
use Rattle.cylinder.specs.Cut.{Cut, as_number}
use Rattle.cylinder.specs.Factor.{Factor}
use Rattle.cylinder.specs.WholeCurves.{plateau, line, cubic, quadratic, reduction1, part2, reduction2, long, tolerance_factor, safety, factor1, factor2}
use Rattle.cylinder.specs.WholeTerm.{formula}
use Rattle.cylinder.specs.WholeStress.{excess}
use Rattle.algebra.proofs.Powers.{mul_pow, pow_one, pow_two}
use Rattle.cylinder.proofs.Branches.{Same2}
use Rattle.cylinder.proofs.Like.{Like, self, again, times, per, power, at_most_lem}

-- f at p/q is the factor w
abbrev Is : Fraction → Factor → ℕ → ℕ → Type 0
Is f w p r = Like f (w.num p r) (w.den p r)

module _ (p r : ℕ) where
  abbrev g : Fraction
  g = p // r

  one : (w f : Bool) → Is (pick w (whole 1) (pick f (hundredths 0_65 ⊘ g ↑ 2) (thousandths 1_274 ⊖ thousandths 0_686 ⊗ g))) (reduction1 (pick w plateau (pick f quadratic line))) p r
  one true f = self 1 1
  one false true = self _ _
  one false false =
      record { m = 1; k = 1000; m_pos = lit< tt; k_pos = lit< tt; num = omega arith; den = omega arith }

  two : (a b c : Bool) → Is (pick a (whole 1) (pick b (thousandths 1_233 ⊖ thousandths 0_933 ⊗ g) (pick c (tenths 0_3 ⊘ g ↑ 3) (tenths 0_2 ⊘ g ↑ 2))))
      (reduction2 (pick a plateau (pick b line (pick c cubic quadratic)))) p r
  two true b c = self 1 1
  two false true c = record { m = 1; k = 1000; m_pos = lit< tt; k_pos = lit< tt; num = omega arith; den = omega arith }
  two false false true = record { m = 10; k = 1; m_pos = lit< tt; k_pos = lit< tt; num = omega arith; den = omega arith }
  two false false false = record { m = 10; k = 1; m_pos = lit< tt; k_pos = lit< tt; num = omega arith; den = omega arith }

  excess_of : (s : Cylinder) → max 1000 s.imperfection * 1 - 1 * 1000 ≡ excess s
  excess_of s = omega arith

  slack : (s : Cylinder) (w : Bool) → s.imperfection ≤ 2000 →
      Is (pick w (tenths 1_5 ⊖ tenths 0_5 ⊗ q s) (whole 1 ⊖ g ⊘ whole 3 ⊗ (q s ⊖ whole 1))) (tolerance_factor w (excess s)) p r
  slack s true le = record { m = 1; k = 50; m_pos = lit< tt; k_pos = lit< tt; num = omega arith; den = omega arith }
  slack s false le = record { m = 1; k = 1; m_pos = lit< tt; k_pos = lit< tt; num = omega (arith, ap (λ (z : ℕ). p * z) (excess_of s)); den = omega arith }

  -- 11/10 over the partial factor is `safety`
  partial : (w f : Bool) → leb (p * 100) (25 * r) ≡ w →
      Like (pick w (tenths 1_1) (pick f (hundredths 1_45) (tenths 1_1 ⊗ (whole 1 ⊕ thousandths 0_318 ⊗ (g ⊖ hundredths 0_25) ⊘ hundredths 1_75))))
      (11 * (safety w f).den p r) (10 * (safety w f).num p r)
  partial true f e = self 11 10
  partial false true e = record { m = 11; k = 5; m_pos = lit< tt; k_pos = lit< tt; num = refl; den = refl }
  partial false false e =
      let lt : 25 * r < p * 100 = leb-false (p * 100) (25 * r) e in
      record { m = 1; k = 2500; m_pos = lit< tt; k_pos = lit< tt; num = omega arith; den = omega arith }

shear_left : (b d f N : ℕ) → b * (d ^ 2 * (1000 ^ 2 * (N ^ 2 * (f ^ 2 * 1) * 10 ^ 2))) ≡ b ^ 1 * ((10000 * f * d) ^ 2 * N ^ 2)
shear_left b d f N = simp (pow_one, pow_two) (omega arith)

shear_right : (n t D : ℕ) → t ^ 2 * (1 ^ 2 * (D ^ 2 * (1 ^ 2 * 3) * 11 ^ 2)) * n ≡ 3 * (11 * t) ^ 2 * D ^ 2 * n ^ 1
shear_right n t D = simp (pow_one, pow_two) (omega arith)

module _ (s : Cylinder) (le : s.imperfection ≤ 2000) (c : Cut) (p r : ℕ) where
  -- κ1 and κ2 with their tolerance
  pub κ1_like : Like (κ1 (branch1 (as_number c)) (p // r) ⊗ tolerance (branch1 (as_number c)).from_1·5 (q s) (p // r)) ((factor1 c (excess s)).num p r)
      ((factor1 c (excess s)).den p r)
  κ1_like = times (one p r (c.within 4 10) (c.reaches 12 10)) (slack p r s (c.reaches 15 10) le)

  pub κ2_like : Like (κ2 (branch2 (as_number c)) (p // r) ⊗ tolerance (branch2 (as_number c)).from_1·5 (q s) (p // r))
      ((reduction2 (part2 c)).num p r * (tolerance_factor (long c) (excess s)).num p r) ((reduction2 (part2 c)).den p r * (tolerance_factor (long c) (excess s)).den p r)
  κ2_like = times (two p r (c.within 25 100) (c.within 1 1) (c.within 15 10)) (slack p r s (c.reaches 15 10) le)

  -- the difference in γ2 is not cut off, since p/r is in the branches
  pub γ2_like : Same2 c p r → Like (γ2 (branch2 (as_number c)) (p // r)) (11 * (safety (c.within 25 100) (c.reaches 2 1)).den p r)
      (10 * (safety (c.within 25 100) (c.reaches 2 1)).num p r)
  γ2_like same = partial p r (c.within 25 100) (c.reaches 2 1) (ap (λ (B : Branch2). B.up_to_0·25) same)

  -- u⁵ against (b/n)⁴, where u is (A B)/(C D)
  fifth : {u : Fraction} (A B C D b n : ℕ) → Like u (A * B) (C * D) → ((b // n) ↑ 4 at_most u ↑ 5) ≡ leb (b ^ 4 * (C ^ 5 * D ^ 5)) (A ^ 5 * B ^ 5 * n ^ 4)
  fifth A B C D b n h =
      at_most_lem (power (self b n) 4) (power h 5) ∙ ap₂ (λ (x y : ℕ). leb (b ^ 4 * x) (y * n ^ 4)) (mul_pow C D 5) (mul_pow A B 5)

  -- the tests of the three terms
  pub axial_test_lem : (σ : Fraction) (b n : ℕ) → Same2 c p r → axial_test s σ b n (branch2 (as_number c)) (p // r)
      ≡ formula (record { rise = 4; power = 5; top = (10000 * s.yield_stress * σ.den) ^ 5; load = (11 * σ.num) ^ 5; factor = factor2 c (excess s) }) p r b n
  axial_test_lem σ b n same =
      fifth (11 * σ.num) ((factor2 c (excess s)).den p r) (10000 * s.yield_stress * σ.den) ((factor2 c (excess s)).num p r) b n
      (again (per (self σ.num σ.den) (times (self 1000 1) (per (times κ2_like (self s.yield_stress 1)) (γ2_like same)))) 1 1 _ _ (lit< tt) (lit< tt)
      (omega arith) (omega arith))

  pub ring_test_lem : (σ : Fraction) (b n : ℕ) → ring_test s σ b n (branch1 (as_number c)) (p // r)
      ≡ formula (record { rise = 4; power = 5; top = (10000 * s.yield_stress * σ.den) ^ 5; load = (11 * σ.num) ^ 5; factor = factor1 c (excess s) }) p r b n
  ring_test_lem σ b n =
      fifth (11 * σ.num) ((factor1 c (excess s)).den p r) (10000 * s.yield_stress * σ.den) ((factor1 c (excess s)).num p r) b n
      (again (per (self σ.num σ.den) (times (self 1000 1) (per (times κ1_like (self s.yield_stress 1)) (self 11 10)))) 1 1 _ _ (lit< tt) (lit< tt)
      (omega arith) (omega arith))

  pub shear_test_lem : (τ : Fraction) (b n : ℕ) → shear_test s τ b n (branch1 (as_number c)) (p // r)
      ≡ formula (record { rise = 1; power = 2; top = (10000 * s.yield_stress * τ.den) ^ 2; load = 3 * (11 * τ.num) ^ 2; factor = factor1 c (excess s) }) p r b n
  shear_test_lem τ b n =
      at_most_lem (self b n)
      (per (power (self τ.num τ.den) 2)
      (times (power (self 1000 1) 2)
      (per (times (power κ1_like 2) (per (power (self s.yield_stress 1) 2) (self 3 1))) (power (self 11 10) 2))))
      ∙ ap₂ leb (shear_left b τ.den s.yield_stress ((factor1 c (excess s)).num p r)) (shear_right n τ.num ((factor1 c (excess s)).den p r))

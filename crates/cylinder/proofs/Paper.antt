-- What SCOPE 5.5 says of the definitions, beside the bounds: each slenderness is a number, no curve falls to 0 in its branch,
-- and between the branch limits the resistance does not rise as the slenderness grows.
use mathlib.Core.Path.{◌≡◌, refl, sym, ap, ◌∙◌}
use mathlib.Core.Bool.{Bool, true, false}
use mathlib.Core.Logic.{◌⊎◌, inl, inr}
use Prim.Native.Nat.{ℕ, ◌*◌, ◌-◌, ◌^◌, ◌≤◌, ◌<◌, max}
use native.Mathlib.Nat.{mul-pos, mul-le-mul, mul-le-mul_left, one-le-pow}
use native.Mathlib.Omega.{arith}
use lib.Dec.{leb, lit<}
use borrow.Author.Tests.{leb-true, leb-false, le-leb}
use Rattle.cylinder.specs.declared.Cylinder.{Cylinder}
use Rattle.cylinder.specs.Fraction.{Fraction, whole, tenths, ◌⊘◌, ◌↑◌, ◌at_most◌}
use Rattle.cylinder.specs.Number.{Number, exactly}
use Rattle.cylinder.specs.Resistance.{Branch1, Branch2, branch1, branch2, axial_s, ring_s, shear_s, κ1, κ2, tolerance, q, axial_r, ring_r, shear_r_square}
use Rattle.cylinder.specs.Cut.{Cut, fraction}
use Rattle.cylinder.specs.WholeIdeal
use Rattle.cylinder.specs.WholeStress.{excess}
use Rattle.algebra.proofs.Powers.{pow_two}
use Rattle.cylinder.proofs.Lawful.{Lawful}
use Rattle.cylinder.proofs.Placed.{reaches_over}
use Rattle.cylinder.proofs.Like.{Like, self, times, per, power, at_most_lem}
use Rattle.cylinder.proofs.Limits.{Sound, axial_lawful, ring_lawful, shear_lawful}
use Rattle.cylinder.proofs.Agree.{Agree, axial_agree, ring_agree, shear_agree}
use Rattle.cylinder.proofs.Curve1.{factor1_falls}
use Rattle.cylinder.proofs.Curve2.{factor2_falls}
use Rattle.cylinder.proofs.Curves.{κ1_like, κ2_like, γ2_like}

-- a number: what is below a fraction that it reaches it reaches too; one that it reaches is at most one that it is within; each fraction is one or the other
pub record Genuine (S : Number) : Type 0 where
  pub down : (f g : Fraction) → 0 < g.den → (f at_most g) ≡ true → S.reaches g ≡ true → S.reaches f ≡ true
  pub meet : (f g : Fraction) → S.reaches f ≡ true → S.within g ≡ true → (f at_most g) ≡ true
  pub one_or_other : (f : Fraction) → 0 < f.den → (S.reaches f ≡ true) ⊎ (S.within f ≡ true)

genuine : (S : Number) (c : Cut) → Agree S c → Lawful c → Genuine S
genuine S c same law =
    record {
      down = λ f g pos le h.
          same.reaches f.num f.den
          ∙ law.down g.num g.den f.num f.den pos (leb-true _ _ le) (sym (same.reaches g.num g.den) ∙ h);
      meet = λ f g h k.
          le-leb _ _ (law.meet f.num f.den g.num g.den (sym (same.reaches f.num f.den) ∙ h) (sym (same.within g.num g.den) ∙ k));
      one_or_other = λ f pos. go f pos (c.within f.num f.den) refl;
    }
  where
    go : (f : Fraction) → 0 < f.den → (b : Bool) → c.within f.num f.den ≡ b → (S.reaches f ≡ true) ⊎ (S.within f ≡ true)
    go f pos true e = inr (same.within f.num f.den ∙ e)
    go f pos false e = inl (same.reaches f.num f.den ∙ reaches_over c law f.num f.den pos e)

pub axial_genuine : (s : Cylinder) → Sound s → Genuine (axial_s s)
axial_genuine s ok = genuine (axial_s s) (WholeIdeal.axial_cut s) (axial_agree s ok) (axial_lawful s ok)

pub ring_genuine : (s : Cylinder) → Sound s → Genuine (ring_s s)
ring_genuine s ok = genuine (ring_s s) (WholeIdeal.ring_cut s) (ring_agree s ok) (ring_lawful s ok)

pub shear_genuine : (s : Cylinder) → Sound s → Genuine (shear_s s)
shear_genuine s ok = genuine (shear_s s) (WholeIdeal.shear_cut s) (shear_agree s ok) (shear_lawful s ok)

-- above 0, and so no difference in a curve is cut off
abbrev Positive : Fraction → Type 0
Positive f = (0 < f.num) × (0 < f.den)

pub κ1_positive : (g : Fraction) → 0 < g.den → Positive (κ1 (branch1 (exactly g)) g)
κ1_positive g pos = go (leb (g.num * 10) (4 * g.den)) refl (leb (12 * g.den) (g.num * 10)) refl
  where
    go : (a : Bool) → leb (g.num * 10) (4 * g.den) ≡ a → (b : Bool) → leb (12 * g.den) (g.num * 10) ≡ b → Positive (κ1 (branch1 (exactly g)) g)
    go true e b f = rw e (lit< tt, lit< tt)
    go false e true f =
        let some : 0 < g.num = omega (arith, leb-true (12 * g.den) (g.num * 10) f) in
        rw (e, f) (mul-pos {m = 65} (lit< tt) (one-le-pow 2 g.den pos), mul-pos {m = 100} (lit< tt) (one-le-pow 2 g.num some))
    go false e false f = let near : g.num * 10 < 12 * g.den = leb-false _ _ f in rw (e, f) (omega arith, omega arith)

pub κ2_positive : (g : Fraction) → 0 < g.den → Positive (κ2 (branch2 (exactly g)) g)
κ2_positive g pos = go (leb (g.num * 100) (25 * g.den)) refl (leb (g.num * 1) (1 * g.den)) refl (leb (g.num * 10) (15 * g.den)) refl
  where
    go : (a : Bool) → leb (g.num * 100) (25 * g.den) ≡ a → (b : Bool) → leb (g.num * 1) (1 * g.den) ≡ b → (c : Bool) → leb (g.num * 10) (15 * g.den) ≡ c →
        Positive (κ2 (branch2 (exactly g)) g)
    go true d b e c f = rw d (lit< tt, lit< tt)
    go false d true e c f = let near : g.num * 1 ≤ 1 * g.den = leb-true _ _ e in rw (d, e) (omega arith, omega arith)
    go false d false e true f =
        let some : 0 < g.num = omega (arith, leb-false (g.num * 1) (1 * g.den) e) in
        rw (d, e, f) (mul-pos {m = 3} (lit< tt) (one-le-pow 3 g.den pos), mul-pos {m = 10} (lit< tt) (one-le-pow 3 g.num some))
    go false d false e false f =
        let some : 0 < g.num = omega (arith, leb-false (g.num * 1) (1 * g.den) e) in
        rw (d, e, f) (mul-pos {m = 2} (lit< tt) (one-le-pow 2 g.den pos), mul-pos {m = 10} (lit< tt) (one-le-pow 2 g.num some))

pub tolerance_positive : (s : Cylinder) → s.imperfection ≤ 2000 → (g : Fraction) → 0 < g.den → Positive (tolerance ((exactly g).reaches (tenths 1_5)) (q s) g)
tolerance_positive s le g pos = go (leb (15 * g.den) (g.num * 10)) refl
  where
    go : (a : Bool) → leb (15 * g.den) (g.num * 10) ≡ a → Positive (tolerance ((exactly g).reaches (tenths 1_5)) (q s) g)
    go true e = rw e (omega arith, omega arith)
    go false e =
        let near : g.num * 10 < 15 * g.den = leb-false _ _ e in
        let small : max 1000 s.imperfection * 1 - 1 * 1000 ≤ 1000 = omega arith in
        rw e (omega (arith, mul-le-mul_left g.num small), omega arith)

fall_2 : (f N S D T N' S' D' T' : ℕ) → N * S * (D' * T') ≤ N' * S' * (D * T) → N * f * (10 * S) * (D' * 1 * (11 * T')) ≤ N' * f * (10 * S') * (D * 1 * (11 * T))
fall_2 f N S D T N' S' D' T' h = omega (arith, mul-le-mul_left (110 * f) h)

fall_1 : (f N D N' D' : ℕ) → N * D' ≤ N' * D → N * f * 10 * (D' * 1 * 11) ≤ N' * f * 10 * (D * 1 * 11)
fall_1 f N D N' D' h = omega (arith, mul-le-mul_left (110 * f) h)

fall_square : (f N D N' D' : ℕ) → N * D' ≤ N' * D → N ^ 2 * (f ^ 2 * 1) * 10 ^ 2 * (D' ^ 2 * (1 ^ 2 * 3) * 11 ^ 2) ≤ N' ^ 2 * (f ^ 2 * 1) * 10 ^ 2 * (D ^ 2 * (1 ^ 2 * 3) * 11 ^ 2)
fall_square f N D N' D' h = simp pow_two (omega (arith, mul-le-mul_left (36300 * (f * f)) (mul-le-mul h h)))

-- g and h in the same branches, g ≤ h: the resistance at h is at most that at g
module _ (s : Cylinder) (ok : Sound s) (g h : Fraction) (le : (g at_most h) ≡ true) where
  abbrev c : Cut
  c = fraction h.num h.den

  pub axial_falls : branch2 (exactly g) ≡ branch2 (exactly h) → (axial_r s (branch2 (exactly h)) h at_most axial_r s (branch2 (exactly g)) g) ≡ true
  axial_falls same =
      ap (λ (B : Branch2). axial_r s (branch2 (exactly h)) h at_most axial_r s B g) same
      ∙ at_most_lem (per (times (κ2_like s ok.imperfect c h.num h.den) (self s.yield_stress 1)) (γ2_like s ok.imperfect c h.num h.den refl))
      (per (times (κ2_like s ok.imperfect c g.num g.den) (self s.yield_stress 1)) (γ2_like s ok.imperfect c g.num g.den same))
      ∙ le-leb _ _
      (fall_2 s.yield_stress _ _ _ _ _ _ _ _ (factor2_falls c (excess s) g.num g.den h.num h.den (leb-true _ _ le)))

  pub ring_falls : branch1 (exactly g) ≡ branch1 (exactly h) → (ring_r s (branch1 (exactly h)) h at_most ring_r s (branch1 (exactly g)) g) ≡ true
  ring_falls same =
      ap (λ (B : Branch1). ring_r s (branch1 (exactly h)) h at_most ring_r s B g) same
      ∙ at_most_lem (per (times (κ1_like s ok.imperfect c h.num h.den) (self s.yield_stress 1)) (self 11 10))
      (per (times (κ1_like s ok.imperfect c g.num g.den) (self s.yield_stress 1)) (self 11 10))
      ∙ le-leb _ _
      (fall_1 s.yield_stress _ _ _ _ (factor1_falls c (excess s) g.num g.den h.num h.den (leb-true _ _ le)))

  pub shear_falls : branch1 (exactly g) ≡ branch1 (exactly h) → (shear_r_square s (branch1 (exactly h)) h at_most shear_r_square s (branch1 (exactly g)) g) ≡ true
  shear_falls same =
      ap (λ (B : Branch1). shear_r_square s (branch1 (exactly h)) h at_most shear_r_square s B g) same
      ∙ at_most_lem (per (times (power (κ1_like s ok.imperfect c h.num h.den) 2) fy²/3) (power (self 11 10) 2))
      (per (times (power (κ1_like s ok.imperfect c g.num g.den) 2) fy²/3) (power (self 11 10) 2))
      ∙ le-leb _ _ (fall_square s.yield_stress _ _ _ _ (factor1_falls c (excess s) g.num g.den h.num h.den (leb-true _ _ le)))
    where
      fy²/3 : Like (whole s.yield_stress ↑ 2 ⊘ whole 3) (s.yield_stress ^ 2 * 1) (1 ^ 2 * 3)
      fy²/3 = per (power (self s.yield_stress 1) 2) (self 3 1)

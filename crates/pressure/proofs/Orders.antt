-- SCOPE 27.1 and 27.2: the two readings of the test. None wins the gain by pressure first (`broken_first`); where L and U by the two differ, the gain is lost or a
-- reading is in doubt (`apart`); without pressure, or with no imperfections over what is permitted, they are the same (`same_reading`). Assumes nothing.
use mathlib.Core.Path.{◌≡◌, refl, sym, ap, ◌∙◌, subst}
use mathlib.Core.Bool.{Bool, true, false}
use mathlib.Core.Logic.{◌⊎◌, inl, inr}
use Prim.Native.Nat.{ℕ, ◌*◌, ◌-◌, ◌≤◌, ◌<◌, max}
use native.Mathlib.Nat.{mul-le-mul_left, mul-le-mul_right, lt_of_not-le}
use native.Mathlib.Decide.{dec_le}
use native.Mathlib.Omega.{arith}
use lib.Dec.{lit≤}
use Rattle.algebra.proofs.Tests.{clash}
use Rattle.cylinder.specs.declared.Cylinder.{Cylinder}
use Rattle.cylinder.specs.InLimits.{InLimits}
use Rattle.cylinder.specs.Fraction.{Fraction, ◌//◌, whole, thousandths}
use Rattle.cylinder.specs.Resistance.{axial_s}
use Rattle.cylinder.specs.Cut.{Cut}
use Rattle.cylinder.specs.WholeCurves.{part2, reduction2, long, tolerance_factor}
use Rattle.cylinder.specs.WholeIdeal
use Rattle.cylinder.specs.Search.{grid, place, Pair, sum_bounds}
use Rattle.cylinder.proofs.Limits.{Sound, sound, axial_lawful}
use Rattle.cylinder.proofs.Far.{axial_far}
use Rattle.cylinder.proofs.Like.{Like}
use Rattle.cylinder.proofs.Agree.{axial_agree}
use Rattle.cylinder.proofs.Placed.{Placed}
use Rattle.cylinder.proofs.Search.{part, placed}
use Rattle.pressure.specs.declared.Order.TheVariants.{ToleranceFirst, PressureFirst}
use Rattle.pressure.specs.Gain.{gain, Acts}
use Rattle.pressure.specs.GainTest.{test_ratio, FromBelow, Broken, Loses, Doubt, fits, A}
use Rattle.pressure.specs.WholeGain.{place38, lessened, reduced, fits_above, fits_below, acting, extra, chosen, tested_at, line_bounds}
use Rattle.pressure.proofs.Spots.{Placed38, placed38}
use Rattle.pressure.proofs.Fits.{fits_like, fits_keeps, keeps_fits, keeps_down}
use Rattle.pressure.proofs.TestRule.{bpos, bound_pos, A-like, κ_like, M-pos, with_rule, without_rule, unclear_rule}
use Rattle.pressure.proofs.Lines.{acts_if}

-- L and U are the same by both readings, whatever the stresses are
abbrev pub SameBounds : Cylinder → ℕ → Type 0
SameBounds s p = (σx σφ τ : Fraction) → line_bounds s p (tested_at ToleranceFirst s) σx σφ τ ≡ line_bounds s p (tested_at PressureFirst s) σx σφ τ

-- the tolerance is at most that of no excess
tolerance_less : (l : Bool) (e p q : ℕ) → (tolerance_factor l e).num p q * (tolerance_factor l 0).den p q ≤ (tolerance_factor l 0).num p q * (tolerance_factor l e).den p q
tolerance_less true e p q = omega arith
tolerance_less false e p q = let le : 3000 * q - e * p ≤ 3000 * q - 0 * p = omega arith in mul-le-mul_right (3000 * q) le

reduced_less : (c : Cut) (e p q : ℕ) → (reduced c e).num p q * (reduced c 0).den p q ≤ (reduced c 0).num p q * (reduced c e).den p q
reduced_less c e p q =
    plain ((reduction2 (part2 c)).num p q) ((reduction2 (part2 c)).den p q) ((tolerance_factor (long c) e).num p q) ((tolerance_factor (long c) e).den p q)
    ((tolerance_factor (long c) 0).num p q) ((tolerance_factor (long c) 0).den p q) (tolerance_less (long c) e p q)
  where
    plain : (r f a b x y : ℕ) → a * y ≤ x * b → r * a * (f * y) ≤ r * x * (f * b)
    plain r f a b x y h = omega (arith, mul-le-mul_left (r * f) h)

times_gain : (a b x y g h : ℕ) → a * y ≤ x * b → a * g * (y * h) ≤ x * g * (b * h)
times_gain a b x y g h le = omega (arith, mul-le-mul_left (g * h) le)

module _ (s : Cylinder) (w : InLimits s) (p : ℕ) (most : p ≤ 1000000) where
  ok : Sound s
  ok = sound s w

  abbrev i : ℕ
  i = s.imperfection

  some_i : i ≤ 2000
  some_i = w.imperfection_most

  abbrev q : ℕ
  q = grid (WholeIdeal.axial_cut s)

  abbrev k : ℕ
  k = place (WholeIdeal.axial_cut s) q

  abbrev j : ℕ
  j = place38 s p

  abbrev v : ℕ
  v = part ((WholeIdeal.axial_cut s).reaches 2 1)

  at : Placed (WholeIdeal.axial_cut s) k q v
  at = placed (WholeIdeal.axial_cut s) (axial_lawful s ok) (axial_far s ok)

  at' : Placed38 s ok p j
  at' = placed38 s ok p most

  -- none wins the gain: broken with tolerance is broken without
  pub broken_first : Acts s p → Broken s p (test_ratio ToleranceFirst s) → Broken s p (test_ratio PressureFirst s)
  broken_first acts b =
      record {
        bound = u;
        breaks = fits_like A' (κ_like s ok p most acts k q v j at at' 1000 (lit≤ tt) u.g u.h u.z) ∙ go (fits (a // f) (N₀ // M₀)) refl;
      }
    where
      u : FromBelow s p
      u = b.bound

      a : ℕ
      a = p * s.radius

      f : ℕ
      f = 5000 * s.yield_stress * s.wall

      A' : Like (A s p) a f
      A' = A-like s ok p most acts k q v j at at' 1000 (lit≤ tt)

      N₀ : ℕ
      N₀ = (reduced (WholeIdeal.axial_cut s) 0).num u.g.num u.g.den * (gain ((axial_s s).reaches (whole 1)) u.h u.z).num

      M₀ : ℕ
      M₀ = (reduced (WholeIdeal.axial_cut s) 0).den u.g.num u.g.den * (gain ((axial_s s).reaches (whole 1)) u.h u.z).den

      N₁ : ℕ
      N₁ = (reduced (WholeIdeal.axial_cut s) (i - 1000)).num u.g.num u.g.den * (gain ((axial_s s).reaches (whole 1)) u.h u.z).num

      M₁ : ℕ
      M₁ = (reduced (WholeIdeal.axial_cut s) (i - 1000)).den u.g.num u.g.den * (gain ((axial_s s).reaches (whole 1)) u.h u.z).den

      pos : 0 < f
      pos = bpos s ok p most acts k q v j at at' i some_i

      g_pos : 0 < u.g.num
      g_pos =
          bound_pos s ok p most acts k q v j at at' i some_i u.g.num u.g.den u.g_den
          (sym ((axial_agree s ok).within u.g.num u.g.den) ∙ u.g_above)

      M₀-pos : 0 < M₀
      M₀-pos = M-pos s ok p most acts k q v j at at' 1000 (lit≤ tt) u.g u.h u.z g_pos u.g_den u.h_den u.z_den

      M₁-pos : 0 < M₁
      M₁-pos = M-pos s ok p most acts k q v j at at' i some_i u.g u.h u.z g_pos u.g_den u.h_den u.z_den

      smaller : N₁ * M₀ ≤ N₀ * M₁
      smaller =
          times_gain ((reduced (WholeIdeal.axial_cut s) (i - 1000)).num u.g.num u.g.den) ((reduced (WholeIdeal.axial_cut s) (i - 1000)).den u.g.num u.g.den)
          ((reduced (WholeIdeal.axial_cut s) 0).num u.g.num u.g.den) ((reduced (WholeIdeal.axial_cut s) 0).den u.g.num u.g.den)
          (gain ((axial_s s).reaches (whole 1)) u.h u.z).num (gain ((axial_s s).reaches (whole 1)) u.h u.z).den
          (reduced_less (WholeIdeal.axial_cut s) (i - 1000) u.g.num u.g.den)

      broken : fits (a // f) (N₁ // M₁) ≡ false
      broken =
          sym (fits_like (A-like s ok p most acts k q v j at at' i some_i) (κ_like s ok p most acts k q v j at at' i some_i u.g u.h u.z)) ∙ b.breaks

      go : (t : Bool) → fits (a // f) (N₀ // M₀) ≡ t → fits (a // f) (N₀ // M₀) ≡ false
      go false e = e
      go true e =
          absurd
          (clash (keeps_fits a f N₁ M₁ pos M₁-pos (keeps_down a f N₁ M₁ N₀ M₀ M₀-pos smaller (fits_keeps a f N₀ M₀ pos M₀-pos e))) broken)

  -- L and U are the same by both readings for all stresses, or the gain is lost, or a reading is in doubt
  pub apart : SameBounds s p ⊎ (Loses s p ⊎ (Doubt s p (test_ratio ToleranceFirst s) ⊎ Doubt s p (test_ratio PressureFirst s)))
  unfolding line_bounds
  apart = go (acting s p) refl (fits_above s p (i - 1000) k q j) refl (fits_below s p (i - 1000) k q j) refl (fits_above s p 0 k q j) refl (fits_below s p 0 k q j) refl
    where
      plain : Fraction → Fraction → Fraction → Pair
      plain σx σφ τ = sum_bounds 0 s σx σφ τ

      gained : Fraction → Fraction → Fraction → Pair
      gained σx σφ τ = sum_bounds (extra σx) s (lessened σx k q j) σφ τ

      dented : fits_above s p (i - 1000) k q j ≡ true → fits_above s p 0 k q j ≡ false → 1000 < i
      dented h g = let n : ¬ (i - 1000 ≡ 0) = λ e. clash (sym (ap (λ (e : ℕ). fits_above s p e k q j) e) ∙ h) g in omega arith

      go : (a : Bool) → acting s p ≡ a → (u : Bool) → fits_above s p (i - 1000) k q j ≡ u → (d : Bool) → fits_below s p (i - 1000) k q j ≡ d →
          (u' : Bool) → fits_above s p 0 k q j ≡ u' → (d' : Bool) → fits_below s p 0 k q j ≡ d' →
          ((σx σφ τ : Fraction) → chosen a u d (plain σx σφ τ) (gained σx σφ τ) ≡ chosen a u' d' (plain σx σφ τ) (gained σx σφ τ))
          ⊎ (Loses s p ⊎ (Doubt s p (test_ratio ToleranceFirst s) ⊎ Doubt s p (test_ratio PressureFirst s)))
      go false e u f d g u' f' d' g' = inl (λ σx σφ τ. refl)
      go true e true f d g true f' d' g' = inl (λ σx σφ τ. refl)
      go true e true f d g false f' true g' = inr (inr (inr (unclear_rule s ok p most (acts_if s ok p e) k q v j at at' 1000 (lit≤ tt) f' g')))
      go true e true f d g false f' false g' =
          inr
          (inl
          (record {
            acts = acts_if s ok p e;
            dented = dented f f';
            kept = with_rule s ok p most (acts_if s ok p e) k q v j at at' i some_i f;
            lost = without_rule s ok p most (acts_if s ok p e) k q v j at at' 1000 (lit≤ tt) g';
          }))
      go true e false f true g u' f' d' g' = inr (inr (inl (unclear_rule s ok p most (acts_if s ok p e) k q v j at at' i some_i f g)))
      go true e false f false g true f' d' g' =
          absurd
          (with_rule s ok p most (acts_if s ok p e) k q v j at at' 1000 (lit≤ tt) f'
          (broken_first (acts_if s ok p e) (without_rule s ok p most (acts_if s ok p e) k q v j at at' i some_i g)))
      go true e false f false g false f' true g' = inr (inr (inr (unclear_rule s ok p most (acts_if s ok p e) k q v j at at' 1000 (lit≤ tt) f' g')))
      go true e false f false g false f' false g' = inl (λ σx σφ τ. refl)

-- without pressure, or with no imperfections over what is permitted
pub same_reading : (s : Cylinder) (p : ℕ) → (p ≡ 0) ⊎ (s.imperfection ≤ 1000) → SameBounds s p
unfolding line_bounds
same_reading s p (inl e) σx σφ τ = ap (λ (n : ℕ). line_bounds s n s.imperfection σx σφ τ) e ∙ sym (ap (λ (n : ℕ). line_bounds s n 1000 σx σφ τ) e)
same_reading s p (inr few) σx σφ τ =
    let q = grid (WholeIdeal.axial_cut s) in
    let k = place (WholeIdeal.axial_cut s) q in
    let e : s.imperfection - 1000 ≡ 0 = omega (arith, few) in
    ap
    (λ (n : ℕ).
    chosen (acting s p) (fits_above s p n k q (place38 s p)) (fits_below s p n k q (place38 s p)) (sum_bounds 0 s σx σφ τ)
    (sum_bounds (extra σx) s (lessened σx k q (place38 s p)) σφ τ))
    e

-- so only imperfections over what is permitted lose the gain
pub lost_dented : (s : Cylinder) (p : ℕ) → ¬ (Broken s p (test_ratio ToleranceFirst s)) → Broken s p (test_ratio PressureFirst s) → 1000 < s.imperfection
lost_dented s p kept lost = elim (dec_le s.imperfection 1000) [
  | yes le ↦ absurd (kept (subst (λ (n : ℕ). Broken s p (thousandths n)) {x = 1000} {y = max 1000 s.imperfection} (omega (arith, le)) lost))
  | no over ↦ lt_of_not-le over
]

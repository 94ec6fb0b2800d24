-- The theorem: L and U of `line_bounds` are right, for every cylinder within the limits and every internal pressure. Assumes nothing.
use mathlib.Core.Path.{◌≡◌, refl, sym, subst, ◌∙◌}
use mathlib.Core.Bool.{Bool, true, false, not}
use mathlib.Core.Logic.{◌⊎◌, inl, inr, ⊎_elim}
use Prim.Native.Nat.{ℕ, zero, suc, ◌*◌, ◌-◌, ◌≤◌, ◌<◌, max}
use native.Mathlib.Omega.{arith}
use lib.Dec.{leb, lit≤, lit<}
use borrow.Author.Tests.{leb-true, le-leb}
use Rattle.algebra.proofs.Tests.{clash, and_true, both_true}
use Rattle.cylinder.specs.declared.Cylinder.{Cylinder}
use Rattle.cylinder.specs.Fraction.{Fraction, thousandths}
use Rattle.cylinder.specs.Exact.{Encloses, Close}
use Rattle.cylinder.specs.Sum.{Over}
use Rattle.cylinder.specs.WholeIdeal
use Rattle.cylinder.specs.Search.{grid, place, Pair, sum_bounds}
use Rattle.cylinder.specs.InLimits.{InLimits}
use Rattle.cylinder.proofs.Limits.{Sound, sound, axial_lawful}
use Rattle.cylinder.proofs.Far.{axial_far}
use Rattle.cylinder.proofs.Agree.{axial_agree, axial_short_lem}
use Rattle.cylinder.proofs.Placed.{Placed}
use Rattle.cylinder.proofs.Search.{part, placed}
use Rattle.cylinder.proofs.SumBounds.{axial_bracket, ring_bracket, shear_bracket, sum_bounds_lem}
use Rattle.cylinder.proofs.Verdict.{Downward, sum_over_down, at_least_down}
use Rattle.pressure.specs.Gain.{Acts}
use Rattle.pressure.specs.declared.Order.{Order}
use Rattle.pressure.specs.declared.Order.TheVariants.{ToleranceFirst, PressureFirst}
use Rattle.pressure.specs.GainTest.{test_ratio, Broken}
use Rattle.pressure.specs.GainSum.{OverGain, LineOver, BoundsUnder}
use Rattle.pressure.specs.WholeGain.{place38, lessened, fits_above, fits_below, acting, extra, chosen, tested_at, line_bounds}
use Rattle.pressure.proofs.Spots.{Placed38, placed38}
use Rattle.pressure.proofs.WithGain.{less, with_right, with_close}
use Rattle.pressure.proofs.TestRule.{with_rule, without_rule, unclear_rule}

-- a line whose sum is over x/y has a sum over every smaller fraction
pub line_down : (s : Cylinder) (p : ℕ) (d σx σφ τ : Fraction) → Downward (LineOver s p d σx σφ τ)
line_down s p d σx σφ τ a b x y bpos ypos le o =
    record {
      with_gain = λ acts keeps. sum_over_down _ _ _ a b x y bpos ypos le (o.with_gain acts keeps);
      without_gain = λ e. sum_over_down _ _ _ a b x y bpos ypos le (o.without_gain e);
    }

-- L and U that are right for the sum with the gain where it applies, and for the plain sum elsewhere, are right for that of the line
pub line_encloses : (s : Cylinder) (p : ℕ) (d σx σφ τ : Fraction) (L U : ℕ) → L ≤ 20000 → U ≤ 20000 →
    (Acts s p → ¬ (Broken s p d) → Encloses (OverGain s p σx σφ τ) L U) → ((¬ (Acts s p)) ⊎ Broken s p d → Encloses (Over s σx σφ τ) L U) →
    Encloses (LineOver s p d σx σφ τ) L U
line_encloses s p d σx σφ τ L U l u applies apart =
    record {
      at_least = λ x y lt. record { with_gain = λ a k. (applies a k).at_least x y lt; without_gain = λ e. (apart e).at_least x y lt };
      at_most_lem = λ under o.
          let kept : ¬ ((¬ (Acts s p)) ⊎ Broken s p d) = λ e. (apart e).at_most_lem under (o.without_gain e) in
          kept (inl (λ a. (applies a (λ b. kept (inr b))).at_most_lem under (o.with_gain a (λ b. kept (inr b)))));
      L-most = l;
      U-most = u;
    }

-- ---- the test `acting` is `Acts`
module _ (s : Cylinder) (ok : Sound s) (p : ℕ) where
  not-true : (b : Bool) → not b ≡ true → b ≡ false
  not-true false h = refl
  not-true true h = sym h

  not-false : (b : Bool) → b ≡ false → not b ≡ true
  not-false false h = refl
  not-false true h = sym h

  pub acts_if : acting s p ≡ true → Acts s p
  acts_if h =
      let a = and_true (leb 1 p) _ h in
      let b = and_true (WholeIdeal.axial_is_short s) (not ((WholeIdeal.axial_cut s).within 7 10)) a.1 in
      record {
        pressed = leb-true 1 p a.0;
        short = axial_short_lem s ok ∙ b.0;
        slender = (axial_agree s ok).within 7 10 ∙ not-true ((WholeIdeal.axial_cut s).within 7 10) b.1;
      }

  pub acts_only : Acts s p → acting s p ≡ true
  acts_only a =
      both_true (leb 1 p) _ (le-leb 1 p a.pressed)
      (both_true (WholeIdeal.axial_is_short s) (not ((WholeIdeal.axial_cut s).within 7 10)) (sym (axial_short_lem s ok) ∙ a.short)
      (not-false ((WholeIdeal.axial_cut s).within 7 10) (sym ((axial_agree s ok).within 7 10) ∙ a.slender)))

module _ (s : Cylinder) (ok : Sound s) (p : ℕ) (most : p ≤ 1000000) (i : ℕ) (some_i : i ≤ 2000) (σx σφ τ : Fraction) (dx : 0 < σx.den) (dφ : 0 < σφ.den)
    (dτ : 0 < τ.den) where
  abbrev q : ℕ
  q = grid (WholeIdeal.axial_cut s)

  abbrev k : ℕ
  k = place (WholeIdeal.axial_cut s) q

  abbrev j : ℕ
  j = place38 s p

  abbrev v : ℕ
  v = part ((WholeIdeal.axial_cut s).reaches 2 1)

  abbrev d : Fraction
  d = thousandths (max 1000 i)

  abbrev plain : Pair
  plain = sum_bounds 0 s σx σφ τ

  abbrev gained : Pair
  gained = sum_bounds (extra σx) s (lessened σx k q j) σφ τ

  at : Placed (WholeIdeal.axial_cut s) k q v
  at = placed (WholeIdeal.axial_cut s) (axial_lawful s ok) (axial_far s ok)

  at' : Placed38 s ok p j
  at' = placed38 s ok p most

  base : Encloses (Over s σx σφ τ) plain.low plain.high × Close plain.low plain.high
  base = sum_bounds_lem 0 (lit≤ tt) s ok σx σφ τ

  module _ (acts : Acts s p) where
    gained_right : Encloses (OverGain s p σx σφ τ) gained.low gained.high
    unfolding sum_bounds
    gained_right =
        with_right s ok p most acts k q v j at at' σx σφ τ dx dφ dτ _ _ _ _ _ _ (extra σx) (axial_bracket s ok (lessened σx k q j))
        (ring_bracket s ok σφ) (shear_bracket s ok τ) (λ pos. omega arith) (omega arith)

    gained_close : Close gained.low gained.high
    unfolding sum_bounds
    gained_close =
        with_close s ok p most acts k q v j at at' σx σφ τ dx dφ dτ _ _ _ _ _ _ (extra σx) (axial_bracket s ok (lessened σx k q j))
        (ring_bracket s ok σφ) (shear_bracket s ok τ) (λ pos. omega arith) (omega arith)

    over_less : (x y : ℕ) → 0 < y → OverGain s p σx σφ τ x y → Over s σx σφ τ x y
    over_less = less s ok p most acts k q v j at at' σx σφ τ dx dφ dτ

    with_line : fits_above s p (i - 1000) k q j ≡ true → BoundsUnder s p d σx σφ τ gained.low gained.high
    with_line up' =
        let keeps : ¬ (Broken s p d) = with_rule s ok p most acts k q v j at at' i some_i up' in
        record {
          encloses = line_encloses s p d σx σφ τ gained.low gained.high gained_right.L-most gained_right.U-most (λ _ _. gained_right)
              (⊎_elim (λ none. absurd (none acts)) (λ broken. absurd (keeps broken)));
          close = inl gained_close;
          undecided = λ wide _ _. absurd (omega (arith, gained_close));
        }

    mixed_line : fits_above s p (i - 1000) k q j ≡ false → fits_below s p (i - 1000) k q j ≡ true → BoundsUnder s p d σx σφ τ gained.low plain.high
    mixed_line up' down' =
        record {
          encloses = line_encloses s p d σx σφ τ gained.low plain.high gained_right.L-most base.0.U-most
              (λ _ _.
              record {
                at_least = gained_right.at_least;
                at_most_lem = λ small o. base.0.at_most_lem small (over_less plain.high 10000 (lit< tt) o);
                L-most = gained_right.L-most;
                U-most = base.0.U-most;
              })
              (λ _.
              record {
                at_least = λ x y lt. over_less x y (some x y gained.low lt) (gained_right.at_least x y lt);
                at_most_lem = base.0.at_most_lem;
                L-most = gained_right.L-most;
                U-most = base.0.U-most;
              });
          close = inr (unclear_rule s ok p most acts k q v j at at' i some_i up' down');
          undecided = λ _ low high'. (
            (λ o.
                gained_right.at_most_lem (omega (arith, gained_close))
                (sum_over_down _ _ _ 101 100 gained.high 10000 (lit< tt) (lit< tt) (omega (arith, gained_close)) o)),
            at_least_down (Over s σx σφ τ) plain.low 10000 99 100 (lit< tt) (omega (arith, base.1)) base.0.at_least,
          );
        }
      where
        some : (x y L : ℕ) → x * 10000 < L * y → 0 < y
        some x zero L lt = omega arith
        some x (suc y) L lt = omega arith

  plain_line : (Acts s p → Broken s p d) → BoundsUnder s p d σx σφ τ plain.low plain.high
  plain_line broken =
      record {
        encloses = line_encloses s p d σx σφ τ plain.low plain.high base.0.L-most base.0.U-most (λ acts keeps. absurd (keeps (broken acts))) (λ _. base.0);
        close = inl base.1;
        undecided = λ wide _ _. absurd (omega (arith, base.1));
      }

  pub line_bounds_lem : BoundsUnder s p d σx σφ τ (line_bounds s p i σx σφ τ).low (line_bounds s p i σx σφ τ).high
  unfolding line_bounds
  line_bounds_lem = go (acting s p) refl (fits_above s p (i - 1000) k q j) refl (fits_below s p (i - 1000) k q j) refl
    where
      go : (a : Bool) → acting s p ≡ a → (u : Bool) → fits_above s p (i - 1000) k q j ≡ u → (w : Bool) → fits_below s p (i - 1000) k q j ≡ w →
          BoundsUnder s p d σx σφ τ (chosen a u w plain gained).low (chosen a u w plain gained).high
      go false e u f w g = plain_line (λ acts. absurd (clash (acts_only s ok p acts) e))
      go true e true f w g = with_line (acts_if s ok p e) f
      go true e false f true g = mixed_line (acts_if s ok p e) f g
      go true e false f false g = plain_line (λ acts. without_rule s ok p most acts k q v j at at' i some_i g)

-- ---- by either reading of the test

-- the imperfections that it reads κ at
pub tested_most : (o : Order) (s : Cylinder) → InLimits s → tested_at o s ≤ 2000
tested_most ToleranceFirst s w = w.imperfection_most
tested_most PressureFirst s w = lit≤ tt

pub tested_ratio : (o : Order) (s : Cylinder) → thousandths (max 1000 (tested_at o s)) ≡ test_ratio o s
tested_ratio ToleranceFirst s = refl
tested_ratio PressureFirst s = refl

pub line_bounds_within : (o : Order) (s : Cylinder) → InLimits s → (p : ℕ) → p ≤ 1000000 → (σx σφ τ : Fraction) → 0 < σx.den → 0 < σφ.den → 0 < τ.den →
    BoundsUnder s p (test_ratio o s) σx σφ τ (line_bounds s p (tested_at o s) σx σφ τ).low (line_bounds s p (tested_at o s) σx σφ τ).high
line_bounds_within o s w p most σx σφ τ dx dφ dτ =
    subst (λ (d : Fraction). BoundsUnder s p d σx σφ τ (line_bounds s p (tested_at o s) σx σφ τ).low (line_bounds s p (tested_at o s) σx σφ τ).high) (tested_ratio o s)
    (line_bounds_lem s (sound s w) p most (tested_at o s) (tested_most o s w) σx σφ τ dx dφ dτ)

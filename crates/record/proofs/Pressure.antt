-- SCOPE 25.7: a record without internal pressure, or with one of 0, has the exact sum, the right answers and the program's answer that it has without
-- SCOPE 25. SCOPE 25.3: what is said of the gain. Assumes nothing.
use mathlib.Core.Path.{◌≡◌, refl, sym, ap, ◌∙◌, subst}
use mathlib.Core.Bool.{true}
use mathlib.Core.Logic.{◌↔◌, inl, inr}
use mathlib.Core.List.{List, [], ◌∷◌, ◌++◌}
use Prim.Native.Nat.{ℕ, ◌≤◌}
use native.Mathlib.Omega.{arith}
use lib.Dec.{leb, lit≤}
use borrow.Author.Tests.{leb-true}
use Rattle.pressure.specs.declared.Order.{Order}
use Rattle.algebra.specs.Choice.{pick}
use Rattle.algebra.proofs.Tests.{clash}
use Rattle.cylinder.specs.declared.Cylinder.{Cylinder}
use Rattle.cylinder.specs.Fraction.{Fraction, whole}
use Rattle.cylinder.specs.Search.{Pair, sum_bounds}
use Rattle.std.specs.Prelude.{None, Some, Ok, Err}
use Rattle.answer.specs.declared.Refusal.{Refusal}
use Rattle.answer.specs.Answers.{Answer, refusal_number}
use Rattle.answer.specs.declared.Judgement.{Judgement}
use Rattle.answer.specs.Checks.{Check, check, FirstBroken, AllPassed}
use Rattle.answer.specs.Answering.{first_or, judgement_of}
use Rattle.answer.specs.Right.{AsCase, refused, judged}
use Rattle.answer.proofs.Checks.{refusals, among_every, all_passed}
use Rattle.answer.proofs.Right
use Rattle.pressure.specs.WholeGain.{tested_at, line_bounds}
use Rattle.line_bounds.specs.declared.Gain.{Gain}
use Rattle.line_bounds.specs.declared.Gain.TheVariants.{Idle}
use Rattle.line_bounds.specs.Means.{GainMeans}
use Rattle.line_bounds.specs.Places.{gain_of}
use Rattle.line_bounds.proofs.Means.{gain_means}
use Rattle.record.specs.declared.Record.{Record}
use Rattle.record.specs.Limits.{pressure_of, pressure_allowed, checks, cylinder_of, with_inner}
use Rattle.record.specs.Right.{ring_stress, RecordOver, Bounds, BoundsOf, Right}
use Rattle.record.specs.Unpressed.{unpressed_checks, UnpressedOver, UnpressedRight, unpressed_bounds, unpressed_answer}
use Rattle.record.specs.Answering.{bounds_of, record_answer, gain_of_record}
use Rattle.record.proofs.Checks.{cylinder_within}
use Rattle.record.proofs.Right.{close_plain}

-- ---- a check at the end that is passed may be left out
module _ (k : Check) (passed : k.passed ≡ true) where
  broken_less : (ks : List Check) (n : Refusal) → FirstBroken (ks ++ (k ∷ [])) n → FirstBroken ks n
  broken_less [] n (inl (f, _)) = clash passed f
  broken_less [] n (inr (_, none)) = none
  broken_less (h ∷ ks) n (inl e) = inl e
  broken_less (h ∷ ks) n (inr (t, f)) = inr (t, broken_less ks n f)

  broken_more : (ks : List Check) (n : Refusal) → FirstBroken ks n → FirstBroken (ks ++ (k ∷ [])) n
  broken_more [] n x' = elim x' [ ]
  broken_more (h ∷ ks) n (inl e) = inl e
  broken_more (h ∷ ks) n (inr (t, f)) = inr (t, broken_more ks n f)

  passed_less : (ks : List Check) → AllPassed (ks ++ (k ∷ [])) → AllPassed ks
  passed_less [] all = tt
  passed_less (h ∷ ks) (t, all) = (t, passed_less ks all)

  passed_more : (ks : List Check) → AllPassed ks → AllPassed (ks ++ (k ∷ []))
  passed_more [] all = (passed, tt)
  passed_more (h ∷ ks) (t, all) = (t, passed_more ks all)

  first_less : {A : Type 0} (f : Refusal → A) (a : A) (ks : List Check) → first_or f a (ks ++ (k ∷ [])) ≡ first_or f a ks
  first_less f a [] = ap (λ b. pick b a (f k.refusal)) passed
  first_less f a (h ∷ ks) = ap (λ x. pick h.passed x (f h.refusal)) (first_less f a ks)

-- L and U at a pressure of 0
at_nought : (o : Order) (s : Cylinder) (x y z : Fraction) → line_bounds s 0 (tested_at o s) x y z ≡ sum_bounds 0 s x y z
unfolding line_bounds
at_nought o s x y z = refl

bounds_at : (o : Order) (s : Cylinder) (x y z : Fraction) (p : ℕ) → p ≡ 0 → line_bounds s p (tested_at o s) x y z ≡ sum_bounds 0 s x y z
bounds_at o s x y z p e = ap (λ (n : ℕ). line_bounds s n (tested_at o s) x y z) e ∙ at_nought o s x y z

module _ (o : Order) (c : Record) (none : pressure_of c.inner ≡ 0) where
  -- the exact sum is the one without a gain
  pub plain_over : (x y : ℕ) → RecordOver o c x y ↔ UnpressedOver c x y
  plain_over x y = (
    λ o. o.without_gain (inl (λ a. omega (arith, none, a.pressed))),
    λ o. record { with_gain = λ a _. absurd (omega (arith, none, a.pressed)); without_gain = λ _. o },
  )

  allowed : pressure_allowed c.inner ≡ true
  allowed = ap (λ (p : ℕ). leb p 1000000) none

  abbrev last : Check
  last = check Refusal.Pressure (pressure_allowed c.inner)

  to_bounds : (j : Judgement) → Bounds o c j → BoundsOf (UnpressedOver c) j
  to_bounds j b =
      record {
        encloses =
            record {
              at_least = λ u v lt. (plain_over u v).0 (b.encloses.at_least u v lt);
              at_most_lem = λ small o. b.encloses.at_most_lem small ((plain_over j.high 10000).1 o);
              L-most = b.encloses.L-most;
              U-most = b.encloses.U-most;
            };
        close = close_plain o c j none b;
      }

  from_bounds : (j : Judgement) → BoundsOf (UnpressedOver c) j → Bounds o c j
  from_bounds j b =
      record {
        encloses =
            record {
              at_least = λ u v lt. (plain_over u v).1 (b.encloses.at_least u v lt);
              at_most_lem = λ small o. b.encloses.at_most_lem small ((plain_over j.high 10000).0 o);
              L-most = b.encloses.L-most;
              U-most = b.encloses.U-most;
            };
        close = inl b.close;
        undecided = λ wide _ _. absurd (omega (arith, b.close));
      }

  -- so are the right answers
  pub plain_right : (a : Answer) → Right o c a ↔ UnpressedRight c a
  plain_right a = (to a, from a)
    where
      to : (a : Answer) → Right o c a → UnpressedRight c a
      to _ (refused n f) = refused n (broken_less last allowed (unpressed_checks c) n f)
      to _ (judged j all (b, k) v) = judged j (passed_less last allowed (unpressed_checks c) all) (to_bounds j b, k) v

      from : (a : Answer) → UnpressedRight c a → Right o c a
      from _ (refused n f) = refused n (broken_more last allowed (unpressed_checks c) n f)
      from _ (judged j all (b, k) v) = judged j (passed_more last allowed (unpressed_checks c) all) (from_bounds j b, k) v

  -- so no refusal is over 13
  pub plain_range : (r : Refusal) → Right o c (Err r) → refusal_number r ≤ 13
  plain_range r right =
      among_every (λ m. refusal_number m ≤ 13) (refusals (unpressed_checks c)) r (Right.refused_among (unpressed_checks c) (AsCase 1 (BoundsOf (UnpressedOver c))) r ((plain_right (Err r)).0 right))
      (lit≤ tt, (lit≤ tt, (lit≤ tt, (lit≤ tt, (lit≤ tt, (lit≤ tt, (lit≤ tt, tt)))))))

  -- L and U are the same
  pub plain_bounds : bounds_of o c ≡ unpressed_bounds c
  unfolding bounds_of unpressed_bounds
  plain_bounds = let s = cylinder_of c.wall in bounds_at o s (whole c.group.axial) (whole (ring_stress s c.group.ring)) (whole c.group.shear) (pressure_of c.inner) none

  -- and the program's answer
  pub plain_answer : record_answer o c ≡ unpressed_answer c
  unfolding record_answer unpressed_answer
  plain_answer =
      first_less last allowed Err (Ok (judgement_of (bounds_of o c).low (bounds_of o c).high)) (unpressed_checks c)
      ∙ ap (λ (b : Pair). first_or Err (Ok (judgement_of b.low b.high)) (unpressed_checks c)) plain_bounds

-- a missing group, and one with a pressure of 0
pub nought_right : (o : Order) (c : Record) (a : Answer) → Right o (with_inner None c) a ↔ Right o (with_inner (Some 0) c) a
nought_right o c a = (λ r. r, λ r. r)

pub nought_answer : (o : Order) (c : Record) → record_answer o (with_inner None c) ≡ record_answer o (with_inner (Some 0) c)
unfolding record_answer bounds_of
nought_answer o c = refl

-- ---- what the program says of the gain is so
pub record_gain : (o : Order) (c : Record) (g : Gain) → g ≡ gain_of_record o c → (g ≡ gain_of_record o c) × (AllPassed (checks c) → GainMeans o (cylinder_of c.wall) (pressure_of c.inner) g)
unfolding gain_of_record
record_gain o c g e = (
  e,
  λ all.
      let s = cylinder_of c.wall in
      let p = pressure_of c.inner in
      let few = leb-true p 1000000 all.1.1.1.1.1.1.1.0 in
      subst (GainMeans o s p) (sym (e ∙ all_passed (λ n. Idle) (gain_of o s p) (checks c) all)) (gain_means o s (cylinder_within c all) p few),
)

-- The program's answer to a record is Right: refused by the first check that is broken and never otherwise, else judged with bounds that hold.
-- What follows of right answers: what the verdicts say, and which refusals there are. Assumes nothing.
use mathlib.Core.Path.{◌≡◌, refl, sym, ◌∙◌}
use mathlib.Core.List.{List, [], ◌∷◌}
use Prim.Native.Nat.{ℕ, ◌+◌, ◌≤◌, ◌<◌}
use native.Mathlib.Nat.{lt_of_not-le}
use native.Mathlib.Decide.{dec_le}
use native.Mathlib.Omega.{arith}
use mathlib.Core.Bool.{Bool, true, false}
use mathlib.Core.Logic.{◌⊎◌, inl, inr, ⊎_elim}
use lib.Dec.{ltb, lit≤, lit<}
use borrow.Author.Tests.{leb-true, ltb-true, ltb-false}
use Rattle.pressure.specs.declared.Order.{Order}
use Rattle.cylinder.specs.Fraction.{whole}
use Rattle.cylinder.specs.Exact.{AtMost, AtLeast, Encloses, Close}
use Rattle.pressure.specs.GainTest.{test_ratio, Doubt}
use Rattle.pressure.proofs.Lines.{line_down, line_bounds_within}
use Rattle.cylinder.proofs.Verdict
use Rattle.std.specs.Prelude.{Ok, Err}
use Rattle.answer.specs.declared.Refusal.{Refusal}
use Rattle.answer.specs.Answers.{Answer, verdict_of, refusal_number}
use Rattle.answer.specs.declared.Verdict.{Verdict}
use Rattle.answer.specs.declared.Verdict.TheVariants.{Holds, Fails, Open}
use Rattle.answer.specs.declared.Judgement.{Judgement}
use Rattle.answer.specs.Answering.{Bounded}
use Rattle.answer.specs.Checks.{Check, AllPassed}
use Rattle.answer.specs.Right.{RightBy, AsCase, refused, judged}
use Rattle.answer.proofs.Checks.{Among, among_every, broken_passed}
use Rattle.answer.proofs.Right
use Rattle.answer.proofs.Verdicts.{verdict_holds, verdict_fails, verdict_open, holds_verdict, fails_verdict}
use Rattle.record.specs.declared.Record.{Record}
use Rattle.record.specs.Limits.{pressure_of, checks, cylinder_of}
use Rattle.record.specs.Right.{ring_stress, RecordOver, BoundsOf, Bounds, Right, Means, InDoubt, MeansFor}
use Rattle.record.specs.Answering.{bounds_of, judgement_of_record, record_answer}
use Rattle.record.proofs.Checks.{cylinder_within}

pub bounds_right : (o : Order) (c : Record) → AllPassed (checks c) → Bounds o c (judgement_of_record o c)
unfolding bounds_of
bounds_right o c all =
    let s = cylinder_of c.wall in
    let few = leb-true (pressure_of c.inner) 1000000 all.1.1.1.1.1.1.1.0 in
    line_bounds_within o s (cylinder_within c all) (pressure_of c.inner) few (whole c.group.axial) (whole (ring_stress s c.group.ring)) (whole c.group.shear)
    (lit< tt) (lit< tt) (lit< tt)

pub record_down : (o : Order) (c : Record) → Verdict.Downward (RecordOver o c)
record_down o c = line_down _ _ _ _ _ _

pub record_right : (o : Order) (c : Record) → Right o c (record_answer o c)
unfolding record_answer
record_right o c = Right.answer_by_right (checks c) (AsCase 1 (Bounds o c)) (judgement_of_record o c) refl (λ all. (bounds_right o c all, refl))

-- the refusals of a record's checks, which those of load cases have too: 6 to 11, 13 and 16
abbrev pub record_refusals : List Refusal
record_refusals = Refusal.Range ∷ Refusal.Edges ∷ Refusal.Shortfall ∷ Refusal.WallRatio ∷ Refusal.LengthRatio ∷ Refusal.Imperfection ∷ Refusal.Wind ∷ Refusal.Pressure ∷ []

pub record_range : (r : Refusal) → Among r record_refusals → (6 ≤ refusal_number r) × (refusal_number r ≤ 16)
record_range r among = among_every (λ m. (6 ≤ refusal_number m) × (refusal_number m ≤ 16)) record_refusals r among
    ((lit≤ tt, lit≤ tt), ((lit≤ tt, lit≤ tt), ((lit≤ tt, lit≤ tt), ((lit≤ tt, lit≤ tt), ((lit≤ tt, lit≤ tt), ((lit≤ tt, lit≤ tt), ((lit≤ tt, lit≤ tt), ((lit≤ tt, lit≤ tt), tt))))))))

module _ (o : Order) (c : Record) where
  -- SCOPE 11.6, 20.7, 22.7 and 25.1: no other refusal than 6 to 11, 13 and 16
  pub meets : (r : Refusal) → Right o c (Err r) → Among r record_refusals
  meets r right = Right.refused_among (checks c) (AsCase 1 (Bounds o c)) r right

  pub refusal_range : (r : Refusal) → Right o c (Err r) → (6 ≤ refusal_number r) × (refusal_number r ≤ 16)
  refusal_range r right = record_range r (meets r right)

  -- L, U and the case fit the number of an answer
  pub right_bounded : (a : Answer) → Right o c a → Bounded a
  right_bounded a r = Right.right_bounded (checks c) (AsCase 1 (Bounds o c)) (λ j b. (b.0.encloses.L-most, b.0.encloses.U-most, omega (arith, b.1), omega (arith, b.1))) a r

-- ---- what a verdict says of an exact sum, whatever the checks and the sum are, if L and U enclose it

module _ (ks : List Check) (Exceeds : ℕ → ℕ → Type 0) (down : Verdict.Downward Exceeds) (j : Judgement) (Claim : Judgement → Type 0)
    (around : Claim j → Encloses Exceeds j.low j.high) where
  pub sum_holds : RightBy ks Claim (Ok j) → j.verdict ≡ Holds → AtMost Exceeds 1 1
  sum_holds (judged _ all b v) h = Verdict.holds_only (around b) down (verdict_holds j.low j.high (sym v ∙ h))

  pub sum_fails : RightBy ks Claim (Ok j) → j.verdict ≡ Fails → Exceeds 1 1
  sum_fails (judged _ all b v) h = Verdict.fails_only (around b) (verdict_fails j.low j.high (sym v ∙ h))

-- and, if they are close, of one that is open
module _ (ks : List Check) (Exceeds : ℕ → ℕ → Type 0) (down : Verdict.Downward Exceeds) (j : Judgement) where
  pub sum_band : RightBy ks (BoundsOf Exceeds) (Ok j) → j.verdict ≡ Open → AtLeast Exceeds 99 100 × AtMost Exceeds 101 100
  sum_band (judged _ all b v) h =
      let (over, under) = verdict_open j.low j.high (sym v ∙ h) in
      Verdict.open_band b.encloses down (omega (arith, b.close)) over under

  pub sum_means : RightBy ks (BoundsOf Exceeds) (Ok j) → Means Exceeds j.verdict
  sum_means r = go j.verdict refl
    where
      go : (v : Verdict) → j.verdict ≡ v → Means Exceeds v
      go Holds e = sum_holds ks Exceeds down j (BoundsOf Exceeds) (λ b. b.encloses) r e
      go Fails e = sum_fails ks Exceeds down j (BoundsOf Exceeds) (λ b. b.encloses) r e
      go Open e = sum_band r e

-- of that of a record
module _ (o : Order) (c : Record) (j : Judgement) where
  -- holds only if the exact sum is at most 1
  pub holds_at_most : Right o c (Ok j) → j.verdict ≡ Holds → AtMost (RecordOver o c) 1 1
  holds_at_most = sum_holds (checks c) (RecordOver o c) (record_down o c) j (AsCase 1 (Bounds o c)) (λ b. b.0.encloses)

  -- fails only if it is over 1
  pub fails_over : Right o c (Ok j) → j.verdict ≡ Fails → RecordOver o c 1 1
  fails_over = sum_fails (checks c) (RecordOver o c) (record_down o c) j (AsCase 1 (Bounds o c)) (λ b. b.0.encloses)

  -- open only if it lies from 0.9999 to 1.0002, or the test of the gain is in doubt
  pub open_near : Right o c (Ok j) → j.verdict ≡ Open → (AtLeast (RecordOver o c) 9999 10000 × AtMost (RecordOver o c) 10002 10000) ⊎ InDoubt o c
  open_near (judged _ all (b, _) v) h =
      let (over, under) = verdict_open j.low j.high (sym v ∙ h) in
      elim (dec_le j.high (j.low + 2)) [
        | yes le ↦ inl (Verdict.open_only b.encloses (record_down o c) le over under)
        | no wide ↦ inr (⊎_elim (λ close. absurd (wide close)) (λ doubt. (doubt, b.undecided (lt_of_not-le wide) under over)) b.close)
      ]

  -- and so from 0.99 to 1.01, the band of SCOPE 9.13, but for that doubt
  pub open_band : Right o c (Ok j) → j.verdict ≡ Open → (AtLeast (RecordOver o c) 99 100 × AtMost (RecordOver o c) 101 100) ⊎ InDoubt o c
  open_band r h =
      ⊎_elim
      (λ near. inl (Verdict.at_least_down (RecordOver o c) 9999 10000 99 100 (lit< tt) (lit≤ tt) near.0, Verdict.at_most_up (RecordOver o c) (record_down o c) 10002 10000 101 100 (lit< tt) (lit< tt) (lit≤ tt) near.1))
      (λ doubt. inr doubt) (open_near r h)

  pub verdict_means : Right o c (Ok j) → MeansFor o c j.verdict
  verdict_means r = go j.verdict refl
    where
      go : (v : Verdict) → j.verdict ≡ v → MeansFor o c v
      go Holds e = holds_at_most r e
      go Fails e = fails_over r e
      go Open e = open_band r e

-- L and U of a right answer that are not close: the two sides of the test of the gain differ by less than 1/1000
pub apart_doubt : (o : Order) (c : Record) (j : Judgement) → Right o c (Ok j) → j.low + 2 < j.high → Doubt (cylinder_of c.wall) (pressure_of c.inner) (test_ratio o (cylinder_of c.wall))
apart_doubt o c j (judged _ all (b, _) v) far = ⊎_elim (λ close. absurd (omega (arith, close, far))) (λ doubt. doubt) b.close

-- without pressure there is no doubt, so L and U are close
pub close_plain : (o : Order) (c : Record) (j : Judgement) → pressure_of c.inner ≡ 0 → Bounds o c j → Close j.low j.high
close_plain o c j none b = ⊎_elim (λ close. close) (λ doubt. absurd (omega (arith, none, doubt.acts.pressed))) b.close

-- ---- L and U of two right answers overlap, so a verdict is the only one where the sum is far enough from 1

module _ (o : Order) (c : Record) (i j : Judgement) (I : Bounds o c i) (J : Bounds o c j) where
  pub overlap : i.low ≤ j.high
  overlap = go (ltb j.high i.low) refl
    where
      go : (b : Bool) → ltb j.high i.low ≡ b → i.low ≤ j.high
      go false e = ltb-false j.high i.low e
      go true e =
          let lt = ltb-true j.high i.low e in
          absurd (J.encloses.at_most_lem (omega (arith, I.encloses.L-most)) (I.encloses.at_least j.high 10000 (omega (arith, lt))))

-- without pressure: where the program's U is at most 9,998, every right answer holds; where its L is at least 10,003, every one fails
module _ (o : Order) (c : Record) (none : pressure_of c.inner ≡ 0) (all : AllPassed (checks c)) (a : Answer) (r : Right o c a) where
  -- where all bounds that are right have one verdict, the answer is a judgement with it
  only : (v : Verdict) → ((j : Judgement) → Bounds o c j → verdict_of j.low j.high ≡ v) → (j : Judgement) × ((a ≡ Ok j) × (j.verdict ≡ v))
  only v says = go a r
    where
      go : (x : Answer) → Right o c x → (j : Judgement) × ((x ≡ Ok j) × (j.verdict ≡ v))
      go _ (refused n f) = absurd (broken_passed (checks c) n f all)
      go _ (judged j p (b, _) is) = (j, (refl, is ∙ says j b))

  pub only_holds : (bounds_of o c).high ≤ 9998 → (j : Judgement) × ((a ≡ Ok j) × (j.verdict ≡ Holds))
  only_holds h =
      only Holds
      (λ j b. let lap = overlap o c j (judgement_of_record o c) b (bounds_right o c all) in holds_verdict j.low j.high (omega (arith, close_plain o c j none b, lap)))

  pub only_fails : 10003 ≤ (bounds_of o c).low → (j : Judgement) × ((a ≡ Ok j) × (j.verdict ≡ Fails))
  only_fails h =
      only Fails
      (λ j b. let lap = overlap o c (judgement_of_record o c) j (bounds_right o c all) b in fails_verdict j.low j.high (omega (arith, close_plain o c j none b, lap)) (omega (arith, lap, h)))

-- The program's choice is right, and what follows of right choices. Assumes nothing.
use mathlib.Core.Path.{◌≡◌, refl, sym, ap, ◌∙◌, subst}
use mathlib.Core.Bool.{Bool, true, false, true≢false}
use mathlib.Core.Logic.{◌⊎◌, inl, inr}
use mathlib.Core.List.{List, []}
use Prim.Native.Nat.{ℕ, ◌+◌, ◌-◌, ◌≤◌, ◌<◌}
use native.Mathlib.Omega.{arith}
use lib.Dec.{leb, lit≤, lit<}
use lib.ListN.{length}
use borrow.Author.Tests.{leb-true, leb-false}
use Rattle.algebra.proofs.Tests.{and_true, both_true, clash}
use Rattle.cylinder.specs.Exact.{AtMost, AtLeast}
use Rattle.cylinder.proofs.SumBounds.{sum_bounds_within}
use Rattle.cylinder.proofs.Verdict
use Rattle.answer.specs.declared.Refusal.{Refusal}
use Rattle.answer.specs.declared.Verdict.{Verdict}
use Rattle.answer.specs.declared.Verdict.TheVariants.{Holds, Fails, Open}
use denote.Enum.Bare.{sameb}
use Rattle.answer.specs.contracts.Verdict.{the_type}
use Rattle.answer.specs.declared.Judgement.{Judgement}
use Rattle.answer.specs.Checks.{FirstBroken, AllPassed}
use Rattle.answer.specs.Right.{judged}
use Rattle.answer.proofs.Checks.{refusals, among_every, first_among, first_or_lem, refused_first, passed_first}
use Rattle.std.specs.Prelude.{Option, None, Some, Ok, Err, position}
use Rattle.answer.specs.Answers.{refusal_number}
use Rattle.answer.specs.Answering.{refusal_by}
use Rattle.answer.proofs.Verdicts.{holds_verdict}
use Rattle.record.specs.Limits.{from_to, cylinder_of}
use Rattle.record.proofs.Checks.{between}
use Rattle.record.proofs.Right.{sum_means}
use Rattle.plates.specs.declared.Shell.{Shell}
use Rattle.plates.specs.declared.Forces.{Forces}
use Rattle.plates.specs.Plates.{Chosen, wall_of, rising, stress_of, choice_checks, is_candidate, PlateOver, RightPlate, HoldsBy, plate_at, Chooses, refuses, takes, finds_none, RightChoice, chosen_number}
use Rattle.plates.specs.Choosing.{fits, judgement_by, plate_judgement, is_holds, plate_holds, found, choosing, PlaceBounded}
use Rattle.std.proofs.lemmas.List.Quantifiers.{position-Some}
use Rattle.plates.proofs.Lists.{position_none}
use Rattle.plates.proofs.Shells.{fits_within, fits_candidate}

-- the code asks whether a verdict is Holds
pub same_holds : (v : Verdict) → sameb the_type v Holds ≡ is_holds v
same_holds Holds = refl
same_holds Open = refl
same_holds Fails = refl

is_holds_lem : (v : Verdict) → is_holds v ≡ true → v ≡ Holds
is_holds_lem Holds e = refl
is_holds_lem Fails e = absurd (true≢false (sym e))
is_holds_lem Open e = absurd (true≢false (sym e))

down : (s : Shell) (f : Forces) (t : ℕ) → Verdict.Downward (PlateOver s f t)
down s f t = Verdict.sum_over_down _ _ _

module _ (s : Shell) (f : Forces) (ps : List ℕ) (all : AllPassed (choice_checks s f ps)) where
  same : (t : ℕ) → fits s f t ≡ is_candidate s f t
  same t = fits_candidate s all.1.0 all.1.1.0 all.1.1.1.1.0 all.1.1.1.1.1.0 f t

  judged_right : (t : ℕ) → is_candidate s f t ≡ true → RightPlate s f t (plate_judgement s f t)
  unfolding judgement_by
  judged_right t ok =
      let w = fits_within s f t (same t ∙ ok) in
      let b = sum_bounds_within 0 (lit≤ tt) (cylinder_of (wall_of s t)) w (stress_of f.axial t) (stress_of f.ring t) (stress_of f.shear t) in
      judged (plate_judgement s f t) tt (record { encloses = b.0; close = b.1 }) refl

  -- a plate passes the program's test exactly if it holds by its rule
  holds_by : (t : ℕ) → plate_holds s f t ≡ true → HoldsBy plate_judgement s f t
  unfolding plate_holds
  holds_by t e =
      let (x, y) = and_true (fits s f t) (is_holds (plate_judgement s f t).verdict) e in
      (sym (same t) ∙ x, is_holds_lem (plate_judgement s f t).verdict y)

  holds_not : (t : ℕ) → plate_holds s f t ≡ false → ¬ (HoldsBy plate_judgement s f t)
  unfolding plate_holds
  holds_not t e (x, y) = clash (both_true (fits s f t) (is_holds (plate_judgement s f t).verdict) (same t ∙ x) (ap is_holds y)) e

  found_chooses : Chooses plate_judgement s f ps (Ok (found s f ps))
  found_chooses = go (position (plate_holds s f) ps) refl
    where
      go : (r : Option ℕ) → position (plate_holds s f) ps ≡ r → Chooses plate_judgement s f ps (Ok (found s f ps))
      go (Some i) e =
          let (there, holds, before) = position-Some (plate_holds s f) ps i 0 e in
          rw e (takes all i there (holds_by (plate_at ps i) holds) (λ j h. holds_not (plate_at ps j) (before j h)))
      go None e = rw e (finds_none all (λ j h. holds_not (plate_at ps j) (position_none (plate_holds s f) ps e j h)))

pub choosing_right : (s : Shell) (f : Forces) (ps : List ℕ) → RightChoice plate_judgement s f ps (choosing s f ps)
unfolding choosing
choosing_right s f ps =
    record {
      chooses = go (first_or_lem Err (Ok (found s f ps)) (choice_checks s f ps));
      right = judged_right s f ps;
      verdict_means = λ all t ok. sum_means [] (PlateOver s f t) (down s f t) (plate_judgement s f t) (judged_right s f ps all t ok);
    }
  where
    go : ((n : Refusal) × (FirstBroken (choice_checks s f ps) n × (choosing s f ps ≡ Err n))) ⊎ (AllPassed (choice_checks s f ps) × (choosing s f ps ≡ Ok (found s f ps))) →
        Chooses plate_judgement s f ps (choosing s f ps)
    go (inl (n, (b, e))) = rw e (refuses n b)
    go (inr (all, e)) = rw e (found_chooses s f ps all)

-- ---- for the code: the choice by the number of the checks, and by how many plates stand before the first that holds

module _ (s : Shell) (f : Forces) (ps : List ℕ) where
  pub as_chosen : (c : Chosen) → c ≡ choosing s f ps → (c ≡ choosing s f ps) × RightChoice plate_judgement s f ps c
  as_chosen c e = (e, subst (RightChoice plate_judgement s f ps) (sym e) (choosing_right s f ps))

  pub broken_choice : (r : Refusal) → Err r ≡ refusal_by (choice_checks s f ps) → Err r ≡ choosing s f ps
  unfolding choosing
  broken_choice r is = refused_first (choice_checks s f ps) Err (Ok (found s f ps)) r is

  pub passed_choice : Ok tt ≡ refusal_by (choice_checks s f ps) → Ok (found s f ps) ≡ choosing s f ps
  unfolding choosing
  passed_choice is = passed_first (choice_checks s f ps) Err (Ok (found s f ps)) is

-- ---- what follows of a right choice, by whatever rule

-- a list that passes check 14 has 64 plates at most
list_most : (s : Shell) (f : Forces) (ps : List ℕ) → AllPassed (choice_checks s f ps) → length ps ≤ 64
list_most s f ps all = (between 1 64 (length ps) (and_true (from_to 1 64 (length ps)) (rising ps) all.0).0).most

-- a judgement that is right and does not say holds: the sum is at least 0.9999
not_holds : (s : Shell) (f : Forces) (t : ℕ) (j : Judgement) → RightPlate s f t j → ¬ (j.verdict ≡ Holds) → AtLeast (PlateOver s f t) 9999 10000
not_holds s f t j (judged _ all b v) other = go (leb j.high 10000) refl
  where
    go : (x : Bool) → leb j.high 10000 ≡ x → AtLeast (PlateOver s f t) 9999 10000
    go true e = absurd (other (v ∙ holds_verdict j.low j.high (leb-true j.high 10000 e)))
    go false e = Verdict.at_least_down (PlateOver s f t) j.low 10000 9999 10000 (lit< tt) (omega (arith, leb-false j.high 10000 e, b.close)) b.encloses.at_least

module _ (rule : Shell → Forces → ℕ → Judgement) (s : Shell) (f : Forces) (ps : List ℕ) where
  -- the plate of a place, with what the choice says of it and of those before it
  record Taken (k : ℕ) : Type 0 where
    all : AllPassed (choice_checks s f ps)
    i : ℕ
    is : k ≡ i + 1
    there : i < length ps
    held : HoldsBy rule s f (plate_at ps i)
    first : (j : ℕ) → j < i → ¬ (HoldsBy rule s f (plate_at ps j))

  taken : (c : Chosen) → Chooses rule s f ps c → (k : ℕ) → c ≡ Ok (Some k) → Taken k
  taken _ (refuses n b) k e = cc
  taken _ (finds_none all none) k e = cc
  taken _ (takes all i h held first) k e = record { all = all; i = i; is = cc; there = h; held = held; first = first }

  -- SCOPE 24: the place is one of the list's, and the exact sum of its plate is at most 1
  pub place_there : (k : ℕ) → RightChoice rule s f ps (Ok (Some k)) → (1 ≤ k) × (k ≤ length ps)
  place_there k r = let t = taken (Ok (Some k)) r.chooses k refl in (omega (arith, t.is), omega (arith, t.is, t.there))

  pub place_holds : (k : ℕ) → RightChoice rule s f ps (Ok (Some k)) → AtMost (PlateOver s f (plate_at ps (k - 1))) 1 1
  place_holds k r =
      let t = taken (Ok (Some k)) r.chooses k refl in
      let e : t.i ≡ k - 1 = omega (arith, t.is) in
      subst (λ (i : ℕ). AtMost (PlateOver s f (plate_at ps i)) 1 1) e
      (rw t.held.1 at (r.verdict_means t.all (plate_at ps t.i) t.held.0))

  -- no plate before it holds, and the sum of each candidate before it is at least 0.9999
  pub none_before : (k : ℕ) → RightChoice rule s f ps (Ok (Some k)) → (j : ℕ) → j + 1 < k → ¬ (HoldsBy rule s f (plate_at ps j))
  none_before k r j h = let t = taken (Ok (Some k)) r.chooses k refl in t.first j (omega (arith, t.is, h))

  pub before_near : (k : ℕ) → RightChoice rule s f ps (Ok (Some k)) → (j : ℕ) → j + 1 < k → is_candidate s f (plate_at ps j) ≡ true → AtLeast (PlateOver s f (plate_at ps j)) 9999 10000
  before_near k r j h ok =
      let t = taken (Ok (Some k)) r.chooses k refl in
      not_holds s f (plate_at ps j) (rule s f (plate_at ps j)) (r.right t.all (plate_at ps j) ok) (λ v. none_before k r j h (ok, v))

  -- where none is returned, no plate holds
  none : (c : Chosen) → Chooses rule s f ps c → c ≡ Ok None → AllPassed (choice_checks s f ps) × ((j : ℕ) → j < length ps → ¬ (HoldsBy rule s f (plate_at ps j)))
  none _ (refuses n b) e = cc
  none _ (takes all i h held first) e = cc
  none _ (finds_none all rest) e = (all, rest)

  pub none_at_all : RightChoice rule s f ps (Ok None) → (j : ℕ) → j < length ps → ¬ (HoldsBy rule s f (plate_at ps j))
  none_at_all r = (none (Ok None) r.chooses refl).1

  pub none_near : RightChoice rule s f ps (Ok None) → (j : ℕ) → j < length ps → is_candidate s f (plate_at ps j) ≡ true → AtLeast (PlateOver s f (plate_at ps j)) 9999 10000
  none_near r j h ok =
      not_holds s f (plate_at ps j) (rule s f (plate_at ps j)) (r.right (none (Ok None) r.chooses refl).0 (plate_at ps j) ok) (λ v. none_at_all r j h (ok, v))

  -- ---- the number: refusals are 6 to 15, places 1 to 64
  pub refusal_range : (n : Refusal) → FirstBroken (choice_checks s f ps) n → (6 ≤ refusal_number n) × (refusal_number n ≤ 15)
  refusal_range n b = among_every (λ m. (6 ≤ refusal_number m) × (refusal_number m ≤ 15)) (refusals (choice_checks s f ps)) n (first_among (choice_checks s f ps) n b)
      ((lit≤ tt, lit≤ tt), ((lit≤ tt, lit≤ tt), ((lit≤ tt, lit≤ tt), ((lit≤ tt, lit≤ tt), ((lit≤ tt, lit≤ tt), ((lit≤ tt, lit≤ tt), tt))))))

  pub place_bounded : (c : Chosen) → Chooses rule s f ps c → PlaceBounded c
  place_bounded _ (refuses n b) = tt
  place_bounded _ (finds_none all rest) = tt
  place_bounded _ (takes all i h held first) = omega (arith, h, list_most s f ps all)

  -- so the number tells which of the three it is
  pub numbered_refused : (n : Refusal) → RightChoice rule s f ps (Err n) → (6 ≤ chosen_number (Err n)) × (chosen_number (Err n) ≤ 15)
  numbered_refused n r = go (Err n) r.chooses refl
    where
      go : (c : Chosen) → Chooses rule s f ps c → c ≡ Err n → (6 ≤ refusal_number n) × (refusal_number n ≤ 15)
      go _ (refuses m b) e = let is : m ≡ n = cc in rw (sym is) (refusal_range m b)
      go _ (takes all i h held first) e = cc
      go _ (finds_none all rest) e = cc

  pub numbered_place : (k : ℕ) → RightChoice rule s f ps (Ok (Some k)) → (101 ≤ chosen_number (Ok (Some k))) × (chosen_number (Ok (Some k)) ≤ 164)
  numbered_place k r =
      let (least, most) = place_there k r in
      (omega (arith, least), omega (arith, most, list_most s f ps (taken (Ok (Some k)) r.chooses k refl).all))

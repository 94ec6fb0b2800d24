-- The answer that `answer_to` gives is right for every line; and 4 and 5 are given exactly under their conditions.
-- Assumes nothing.
use mathlib.Core.Path.{◌≡◌, refl, sym, ◌∙◌, subst}
use Prim.Native.Nat.{ℕ, ◌≤◌, ◌<◌}
use mathlib.Core.Logic.{◌↔◌}
use native.Mathlib.Omega.{arith}
use mathlib.Core.Bool.{Bool, true, false}
use mathlib.Core.List.{List, []}
use lib.ListN.{length}
use lib.Dec.{ltb, lit≤}
use borrow.Author.Tests.{lt-ltb, le-ltb, ltb-true, ltb-false}
use Rattle.pressure.specs.declared.Order.{Order}
use Rattle.algebra.specs.Choice.{pick}
use Rattle.format.proofs.Formats.{Whole, spelt, unspelt}
use Rattle.std.specs.Prelude.{Ok, Err, Option, Some, None}
use Rattle.answer.specs.declared.Refusal.{Refusal}
use Rattle.answer.specs.declared.Judgement.{Judgement}
use Rattle.cases.specs.Cases.{LoadCases, RightCases}
use Rattle.cases.specs.Answering.{cases_answer}
use Rattle.answer.specs.Answers.{refusal_number, answer_number, Answer}
use Rattle.answer.specs.Answering.{Bounded}
use Rattle.answer.proofs.Numbers.{number_tells}
use Rattle.cases.proofs.Right.{cases_right, cases_bounded, cases_range, cases_means}
use Rattle.reading.specs.Text.{Spells}
use Rattle.reading.specs.Reading.{form_of}
use Rattle.reading.specs.Answering.{answer_form, answer_to}
use Rattle.reading.specs.Answers.{line_most, RightLine, too_long, not_form, of_cases, MeansLine}
use Rattle.reading.proofs.Inverse.{spells_some, spells_few, form_right, other_text, blank_spells}

module _ (o : Order) where
  -- ---- for the code

  module _ (l : List ℕ) where
    pub answer_long : 512 < length l → Err Refusal.LineBytes ≡ answer_to o l
    unfolding answer_to
    answer_long h = sym (rw (lt-ltb line_most (length l) h) refl)

    module _ (h : length l ≤ 512) (f : Option LoadCases) (is : f ≡ form_of l) where
      pub answer_other : f ≡ None → Err Refusal.Form ≡ answer_to o l
      unfolding answer_to
      answer_other e = sym (rw (le-ltb 512 (length l) h, sym is ∙ e) refl)

      pub answer_read : (c : LoadCases) → f ≡ Some c → (a : Answer) → a ≡ cases_answer o c → a ≡ answer_to o l
      unfolding answer_to
      answer_read c e a p = p ∙ sym (rw (le-ltb 512 (length l) h, sym is ∙ e) refl)

  -- ---- the answer is right

  pub answer_right : (l : List ℕ) → RightLine o l (answer_to o l)
  unfolding answer_to
  answer_right l = go (ltb 512 (length l)) refl
    where
      by_form : length l ≤ 512 → (f : Option LoadCases) → Whole (Spells l) Some None f → RightLine o l (answer_form o f)
      by_form h _ (spelt c is) = of_cases c (cases_answer o c) h is (cases_right o c (spells_some l c is))
      by_form h _ (unspelt none) = not_form h none

      go : (t : Bool) → ltb 512 (length l) ≡ t → RightLine o l (pick (ltb 512 (length l)) (Err Refusal.LineBytes) (answer_form o (form_of l)))
      go true e = rw e (too_long (ltb-true 512 (length l) e))
      go false e = rw e (by_form (ltb-false 512 (length l) e) (form_of l) (form_right l))

  pub right_of : (l : List ℕ) (a : Answer) → a ≡ answer_to o l → RightLine o l a
  right_of l a e = rw e (answer_right l)

  -- ---- and no other answer is

  -- load cases are refused by no number below 6
  six : (c : LoadCases) (a : Answer) → RightCases o c a → (n : Refusal) → a ≡ Err n → 6 ≤ refusal_number n
  six c a r n e = (cases_range o c n (subst (RightCases o c) e r)).0

  -- 4 only over 512 bytes
  right_four : (l : List ℕ) (a : Answer) → RightLine o l a → a ≡ Err Refusal.LineBytes → 512 < length l
  right_four l _ (too_long h) e = h
  right_four l _ (not_form h none) e = absurd (let z : ◌≡◌ {A = ℕ} 0 1 = cc in omega arith)
  right_four l _ (of_cases c a h is right) e = absurd (omega (arith, six c a right Refusal.LineBytes e))

  -- 5 only for a line of at most 512 bytes that spells no load cases
  right_five : (l : List ℕ) (a : Answer) → RightLine o l a → a ≡ Err Refusal.Form → (length l ≤ 512) × ((c : LoadCases) → Spells l c → ⊥)
  right_five l _ (too_long h) e = absurd (let z : ◌≡◌ {A = ℕ} 0 1 = cc in omega arith)
  right_five l _ (not_form h none) e = (h, none)
  right_five l _ (of_cases c a h is right) e = absurd (omega (arith, six c a right Refusal.Form e))

  pub answer_four : (l : List ℕ) → (answer_to o l ≡ Err Refusal.LineBytes) ↔ (512 < length l)
  answer_four l = (λ e. right_four l (answer_to o l) (answer_right l) e, λ h. sym (answer_long l h))

  pub answer_five : (l : List ℕ) → (answer_to o l ≡ Err Refusal.Form) ↔ ((length l ≤ 512) × ((c : LoadCases) → Spells l c → ⊥))
  answer_five l = (λ e. right_five l (answer_to o l) (answer_right l) e, λ h. sym (answer_other l h.0 (form_of l) refl ((other_text l).1 h.1)))

  -- SCOPE 7.3: a line without bytes is refused by 5
  pub blank_five : answer_to o [] ≡ Err Refusal.Form
  blank_five = (answer_five []).1 (lit≤ tt, λ c is. blank_spells c is)

  -- ---- a line with a verdict spells load cases, of which its judgement says so

  pub line_means : (l : List ℕ) (a : Answer) → RightLine o l a → (j : Judgement) → a ≡ Ok j → MeansLine o l j
  line_means l _ (too_long h) j e = absurd (let z : ◌≡◌ {A = ℕ} 0 1 = cc in omega arith)
  line_means l _ (not_form h none) j e = absurd (let z : ◌≡◌ {A = ℕ} 0 1 = cc in omega arith)
  line_means l _ (of_cases c a h is right) j e = (c, (is, cases_means o c j (subst (RightCases o c) e right)))

  -- ---- the number of a refusal is at most 16

  pub line_refusal : (l : List ℕ) (a : Answer) → RightLine o l a → (n : Refusal) → a ≡ Err n → refusal_number n ≤ 16
  line_refusal l _ (too_long h) n e = let is : Refusal.LineBytes ≡ n = cc in subst (λ (r : Refusal). refusal_number r ≤ 16) is (omega arith)
  line_refusal l _ (not_form h none) n e = let is : Refusal.Form ≡ n = cc in subst (λ (r : Refusal). refusal_number r ≤ 16) is (omega arith)
  line_refusal l _ (of_cases c a h is right) n e = (cases_range o c n (subst (RightCases o c) e right)).1

  -- L, U and the case of an answer to a line fit its number
  pub line_bounded : (l : List ℕ) (a : Answer) → RightLine o l a → Bounded a
  line_bounded l _ (too_long h) = tt
  line_bounded l _ (not_form h none) = tt
  line_bounded l _ (of_cases c a h is right) = cases_bounded o c (spells_few l c is) a right

  -- so the number tells the answer
  pub line_number : (l m : List ℕ) (a b : Answer) → RightLine o l a → RightLine o m b → answer_number a ≡ answer_number b → a ≡ b
  line_number l m a b r q = number_tells a b (line_bounded l a r) (line_bounded m b q)

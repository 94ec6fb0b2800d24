-- SCOPE 6.6, of a line: a refusal is the same in every right answer, and so is the verdict for given L, U and case.
-- Assumes nothing.
use mathlib.Core.Path.{◌≡◌, refl, sym, subst}
use mathlib.Core.List.{List}
use Prim.Native.Nat.{ℕ}
use native.Mathlib.Omega.{arith}
use Rattle.pressure.specs.declared.Order.{Order}
use Rattle.std.specs.Prelude.{Ok, Err}
use Rattle.answer.specs.declared.Refusal.{Refusal}
use Rattle.answer.specs.Answers.{Answer}
use Rattle.answer.specs.declared.Judgement.{Judgement}
use Rattle.answer.proofs.Right
use Rattle.cases.specs.Cases.{LoadCases, case_checks, Governs, RightCases}
use Rattle.reading.specs.Text.{Spells}
use Rattle.reading.specs.Answers.{RightLine, too_long, not_form, of_cases}
use Rattle.reading.proofs.Inverse.{spells_once}

module _ (o : Order) where
  module _ (l : List ℕ) where
    -- two right answers to a line: the same refusal by 4 or 5, or both right for the load cases that the line spells
    pub data Two (a b : Answer) : Type 0 where
      same : a ≡ b → Two a b
      spelled : (c : LoadCases) → Spells l c → RightCases o c a → RightCases o c b → Two a b

    pub two : (a b : Answer) → RightLine o l a → RightLine o l b → Two a b
    two _ _ (too_long h) (too_long h') = same refl
    two _ _ (too_long h) (not_form h' none) = absurd (omega arith)
    two _ _ (too_long h) (of_cases c a h' is right) = absurd (omega arith)
    two _ _ (not_form h none) (too_long h') = absurd (omega arith)
    two _ _ (not_form h none) (not_form h' none') = same refl
    two _ _ (not_form h none) (of_cases c a h' is right) = absurd (none c is)
    two _ _ (of_cases c a h is right) (too_long h') = absurd (omega arith)
    two _ _ (of_cases c a h is right) (not_form h' none) = absurd (none c is)
    two _ _ (of_cases c a h is right) (of_cases d b h' is' right') = spelled c is right (subst (λ (x : LoadCases). RightCases o x b) (spells_once l d c is' is) right')

    pub same_line_refusal : (n : Refusal) (b : Answer) → RightLine o l (Err n) → RightLine o l b → b ≡ Err n
    same_line_refusal n b r s = go (two (Err n) b r s)
      where
        go : Two (Err n) b → b ≡ Err n
        go (same e) = sym e
        go (spelled c is p q) = Right.same_refusal (case_checks c) (Governs o c) n b p q

    pub same_line_verdict : (i j : Judgement) → RightLine o l (Ok i) → RightLine o l (Ok j) → i.low ≡ j.low → i.high ≡ j.high → i.case ≡ j.case → i ≡ j
    same_line_verdict i j r s low high case_is = go (two (Ok i) (Ok j) r s)
      where
        go : Two (Ok i) (Ok j) → i ≡ j
        go (same e) = cc
        go (spelled c is p q) = let v = Right.same_verdict (case_checks c) (Governs o c) i j p q low high in λ k. record { verdict = v k; low = low k; high = high k; case = case_is k }

-- SCOPE 27.2: a line has the same answer by both readings of the pressure's test, or it is one that loses the gain, or a reading is in doubt. Assumes nothing.
use Rattle.answer.specs.declared.Refusal.{Refusal}
use Rattle.answer.specs.Answers.{Answer}
use Rattle.std.specs.Prelude.{Err}
use mathlib.Core.Path.{◌≡◌, refl, sym, ap, ◌∙◌}
use mathlib.Core.Logic.{◌⊎◌, inl, inr}
use mathlib.Core.List.{List}
use Prim.Native.Nat.{ℕ, ◌≤◌}
use lib.ListN.{length}
use lib.Dec.{ltb}
use Rattle.algebra.specs.Choice.{pick}
use Rattle.pressure.specs.declared.Order.TheVariants.{ToleranceFirst, PressureFirst}
use Rattle.pressure.proofs.Orders.{same_reading}
use Rattle.record.specs.Limits.{pressure_of, cylinder_of}
use Rattle.cases.specs.Cases.{LoadCases}
use Rattle.cases.specs.Answering.{cases_answer}
use Rattle.cases.proofs.Orders.{Trouble, cases_same, cases_apart}
use Rattle.reading.specs.Text.{Spells}
use Rattle.reading.specs.Answering.{answer_to}
use Rattle.reading.specs.Answers.{RightLine, too_long, not_form, of_cases, Changed}
use Rattle.reading.proofs.Inverse.{read_text, spells_some}
use Rattle.reading.proofs.Answers.{answer_long, answer_five, answer_right}

-- the answer to a line that spells load cases
module _ (l : List ℕ) (c : LoadCases) (is : Spells l c) where
  same_line : cases_answer ToleranceFirst c ≡ cases_answer PressureFirst c → answer_to ToleranceFirst l ≡ answer_to PressureFirst l
  unfolding answer_to
  same_line same = rw (read_text l c is) (ap (λ (a : Answer). pick (ltb 512 (length l)) (Err Refusal.LineBytes) a) same)

  -- without pressure, or with no imperfections over what is permitted
  pub line_same : (pressure_of c.inner ≡ 0) ⊎ (c.wall.imperfection ≤ 1000) → answer_to ToleranceFirst l ≡ answer_to PressureFirst l
  line_same h = same_line (cases_same c (same_reading (cylinder_of c.wall) (pressure_of c.inner) h))

-- a line with two different answers
pub line_changed : (l : List ℕ) → ¬ (answer_to ToleranceFirst l ≡ answer_to PressureFirst l) → Changed l
line_changed l other = go (answer_to PressureFirst l) (answer_right PressureFirst l) refl
  where
    go : (a : Answer) → RightLine PressureFirst l a → a ≡ answer_to PressureFirst l → Changed l
    go _ (too_long h) e = absurd (other (sym (answer_long ToleranceFirst l h) ∙ e))
    go _ (not_form h none) e = absurd (other ((answer_five ToleranceFirst l).1 (h, none) ∙ e))
    go _ (of_cases c a h is right) e = by (cases_apart c (spells_some l c is))
      where
        by : (cases_answer ToleranceFirst c ≡ cases_answer PressureFirst c) ⊎ Trouble c → Changed l
        by (inl same) = absurd (other (same_line l c is same))
        by (inr trouble) = record { cases = c; spelt = is; why = trouble }

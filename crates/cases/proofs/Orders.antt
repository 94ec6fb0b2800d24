-- SCOPE 27.2: load cases have the same answer by both readings of the pressure's test, or the gain is lost, or a reading is in doubt. Assumes nothing.
use mathlib.Core.Path.{◌≡◌, refl, sym, ap, ◌∙◌}
use mathlib.Core.Logic.{◌⊎◌, inl, inr}
use mathlib.Core.List.{List, [], ◌∷◌}
use Prim.Native.Nat.{ℕ, suc, ◌<◌}
use native.Mathlib.Omega.{arith}
use lib.ListN.{length}
use borrow.Author.Tests.{leb-true}
use Rattle.pressure.specs.declared.Order.TheVariants.{ToleranceFirst, PressureFirst}
use Rattle.pressure.specs.GainTest.{test_ratio, Loses, Doubt}
use Rattle.pressure.proofs.Orders.{SameBounds, apart}
use Rattle.std.specs.Prelude.{Ok, Err}
use Rattle.answer.specs.declared.Refusal.{Refusal}
use Rattle.answer.specs.declared.Judgement.{Judgement}
use Rattle.answer.specs.Checks.{FirstBroken, AllPassed}
use Rattle.answer.specs.Answering.{first_or, refusal_by, of_case, judgement_of}
use Rattle.answer.proofs.Checks.{first_or_lem, first_broken}
use Rattle.record.specs.declared.Group.{Group}
use Rattle.record.specs.Limits.{pressure_of, cylinder_of}
use Rattle.record.proofs.Checks.{cylinder_within}
use Rattle.record.proofs.Orders.{bounds_same}
use Rattle.cases.specs.Cases.{LoadCases, alone, case_checks}
use Rattle.cases.specs.Answering.{judgements, governs, cases_answer}
use Rattle.cases.proofs.Right.{alone_passed}

module _ (c : LoadCases) where
  -- by the cylinder and the pressure, which are those of all load cases
  abbrev pub Same : Type 0
  Same = SameBounds (cylinder_of c.wall) (pressure_of c.inner)

  same_judgements : Same → (n : ℕ) (gs : List Group) → judgements ToleranceFirst c n gs ≡ judgements PressureFirst c n gs
  unfolding judgements
  same_judgements same n [] = refl
  same_judgements same n (g ∷ gs) = λ i.
      of_case n (judgement_of (bounds_same (alone c g) same i).low (bounds_same (alone c g) same i).high) ∷ same_judgements same (suc n) gs i

  pub cases_same : Same → cases_answer ToleranceFirst c ≡ cases_answer PressureFirst c
  unfolding cases_answer judgements
  cases_same same = ap (λ (js : List Judgement). first_or Err (Ok (governs js)) (case_checks c)) (same_judgements same 1 c.groups)

  -- the gain is lost, or a reading is in doubt
  abbrev pub Trouble : Type 0
  Trouble =
      Loses (cylinder_of c.wall) (pressure_of c.inner)
      ⊎ (Doubt (cylinder_of c.wall) (pressure_of c.inner) (test_ratio ToleranceFirst (cylinder_of c.wall))
      ⊎ Doubt (cylinder_of c.wall) (pressure_of c.inner) (test_ratio PressureFirst (cylinder_of c.wall)))

  same_or_trouble : 0 < length c.groups → AllPassed (case_checks c) → Same ⊎ Trouble
  same_or_trouble some all = go c.groups refl some
    where
      go : (gs : List Group) → c.groups ≡ gs → 0 < length gs → Same ⊎ Trouble
      go [] e none = absurd (omega arith)
      go (g ∷ gs) e _ =
          let passed = alone_passed c all 0 g (rw e refl) in
          apart (cylinder_of c.wall) (cylinder_within (alone c g) passed) (pressure_of c.inner) (leb-true (pressure_of c.inner) 1000000 passed.1.1.1.1.1.1.1.0)

  -- refusals are the same by both, since no check reads the test
  pub cases_apart : 0 < length c.groups → (cases_answer ToleranceFirst c ≡ cases_answer PressureFirst c) ⊎ Trouble
  unfolding cases_answer
  cases_apart some = go (first_or_lem Err (Ok tt) (case_checks c))
    where
      by : Same ⊎ Trouble → (cases_answer ToleranceFirst c ≡ cases_answer PressureFirst c) ⊎ Trouble
      by (inl same) = inl (cases_same same)
      by (inr trouble) = inr trouble

      go : ((n : Refusal) × (FirstBroken (case_checks c) n × (refusal_by (case_checks c) ≡ Err n))) ⊎ (AllPassed (case_checks c) × (refusal_by (case_checks c) ≡ Ok tt)) →
          (cases_answer ToleranceFirst c ≡ cases_answer PressureFirst c) ⊎ Trouble
      go (inl (n, (broken, e))) = inl (first_broken Err _ (case_checks c) n broken ∙ sym (first_broken Err _ (case_checks c) n broken))
      go (inr (all, e)) = by (same_or_trouble some all)

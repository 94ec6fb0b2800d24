-- The loop over load cases that breaks no check: what is judged so far, with what is left, is what governs. Assumes nothing.
use mathlib.Core.Path.{◌≡◌, refl, sym, ap, ◌∙◌, subst}
use mathlib.Core.List.{List, [], ◌∷◌}
use Prim.Native.Nat.{ℕ, suc, ◌+◌, ◌≤◌, ◌<◌}
use native.Mathlib.Numerals.{add-one}
use native.Mathlib.Omega.{arith}
use lib.ListN.{length, drop, get_or}
use Rattle.std.proofs.lemmas.List.{nil_from_length}
use Rattle.pressure.specs.declared.Order.{Order}
use Rattle.answer.specs.declared.Judgement.{Judgement}
use Rattle.answer.specs.Governing.{worse_of, governing}
use Rattle.answer.specs.Checks.{AllPassed}
use Rattle.answer.specs.Answering.{of_case}
use Rattle.record.specs.declared.Group.{Group}
use Rattle.record.specs.declared.Record.{Record}
use Rattle.record.specs.Limits.{checks}
use Rattle.record.specs.Answering.{judgement_of_record, WorkedOn}
use Rattle.line_bounds.specs.declared.Worked.{Worked}
use Rattle.cases.specs.Cases.{LoadCases, alone, case_checks, At}
use Rattle.cases.specs.Answering.{no_group, judgements, governs}
use Rattle.cases.proofs.Right.{alone_passed}

module _ (o : Order) (c : LoadCases) (w : Worked) where
  -- a load case breaks no check, and what it needs has been worked
  abbrev pub Ready : Record → Type 0
  Ready r = AllPassed (checks r) × WorkedOn o r w

  -- to finish from here is to do the whole; what is left is numbered from k on
  pub record Here (worst : Judgement) (k : ℕ) (left : List Group) : Type 0 where
    pub next : governing worst (judgements o c k left) ≡ governs (judgements o c 1 c.groups)
    pub ready : (m : ℕ) (g : Group) → At left m g → Ready (alone c g)
    pub counted : k + length left ≤ 10

  pub all_ready : AllPassed (case_checks c) → ((m : ℕ) (g : Group) → At c.groups m g → WorkedOn o (alone c g) w) → (m : ℕ) (g : Group) → At c.groups m g → Ready (alone c g)
  all_ready all works m g at = (alone_passed c all m g at, works m g at)

  pub here_first : ((m : ℕ) (g : Group) → At c.groups m g → Ready (alone c g)) → 0 < length c.groups → length c.groups ≤ 8 →
      (worst : Judgement) → worst ≡ judgement_of_record o (alone c (get_or c.groups 0 no_group)) → (k : ℕ) → k ≡ 2 → (left : List Group) → left ≡ drop 1 c.groups → Here worst k left
  unfolding judgements
  here_first all some few worst first k two left rest = go c.groups refl some
    where
      go : (gs : List Group) → c.groups ≡ gs → 0 < length gs → Here worst k left
      go [] e none = absurd (omega arith)
      go (g ∷ gs) e _ =
          rw (rest ∙ ap (drop 1) e, two)
          (record {
            next =
                ap (λ (j : Judgement). governing j (judgements o c 2 gs)) (first ∙ ap (λ (l : List Group). judgement_of_record o (alone c (get_or l 0 no_group))) e)
                ∙ ap (λ (l : List Group). governs (judgements o c 1 l)) (sym e);
            ready = λ m h at. all (suc m) h (subst (λ (l : List Group). At l (suc m) h) (sym e) at);
            counted = omega (arith, ap length e);
          })

  module _ (worst : Judgement) (k : ℕ) (left : List Group) (here : Here worst k left) where
    pub here_turn : (g : Group) (after : List Group) → left ≡ g ∷ after → (n : ℕ) → n ≡ k → (next : ℕ) → next ≡ n + 1 →
        (r : Judgement) → r ≡ worse_of worst (of_case n (judgement_of_record o (alone c g))) → Here r next after
    unfolding judgements
    here_turn g after steps n same next more r is =
        rw (is, more ∙ add-one n, same)
        (record {
          next = ap (λ (l : List Group). governing worst (judgements o c k l)) (sym steps) ∙ here.next;
          ready = λ m h at. here.ready (suc m) h (rw steps at);
          counted = omega (arith, here.counted, ap length steps);
        })

    pub here_ready : (g : Group) (after : List Group) → left ≡ g ∷ after → (r : Record) → r ≡ alone c g → Ready r
    here_ready g after steps r is = subst Ready (sym is) (here.ready 0 g (rw steps refl))

    pub here_end : length left ≡ 0 → worst ≡ governs (judgements o c 1 c.groups)
    unfolding judgements
    here_end none = ap (λ (l : List Group). governing worst (judgements o c k l)) (sym (nil_from_length left none)) ∙ here.next

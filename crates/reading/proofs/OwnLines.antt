-- SCOPE 26.3 and 26.4: the program judges each load case of a line as it judges the line of that load case alone, and the line by the one that governs; it refuses the
-- line exactly if it refuses one of these, and by the number of one. Assumes nothing.
use mathlib.Core.Path.{◌≡◌, refl, sym, ap, ◌∙◌, subst}
use mathlib.Core.Logic.{inl}
use mathlib.Core.List.{List, [], ◌∷◌}
use Prim.Native.Nat.{ℕ, zero, suc, ◌≤◌}
use native.Mathlib.Omega.{arith}
use lib.ListN.{length}
use Rattle.pressure.specs.declared.Order.{Order}
use Rattle.format.specs.Texts.{Each}
use Rattle.std.specs.Prelude.{Ok, Err}
use Rattle.answer.specs.declared.Refusal.{Refusal}
use Rattle.answer.specs.Answers.{Answer}
use Rattle.answer.specs.declared.Judgement.{Judgement}
use Rattle.record.specs.declared.Group.{Group}
use Rattle.record.specs.Answering.{judgement_of_record, record_answer}
use Rattle.cases.specs.Cases.{LoadCases, alone, one_case, At}
use Rattle.cases.specs.Answering.{judgements, governs, cases_answer}
use Rattle.cases.proofs.Right.{judged_by, alone_judged, alone_refused, refused_alone, one_answer}
use Rattle.reading.specs.Text.{SmallGroup, Small, text, Spells}
use Rattle.reading.specs.Reading.{form_of}
use Rattle.reading.specs.Answering.{answer_to}
use Rattle.reading.specs.Answers.{RightLine, too_long, not_form, of_cases, own_line, OwnJudged, ByOwnLines}
use Rattle.reading.proofs.Inverse.{read_text, spells_some}
use Rattle.reading.proofs.Answers.{answer_read, answer_right}
use Rattle.reading.proofs.Shortfall.{text_short}

each_at : (gs : List Group) → Each SmallGroup gs → (m : ℕ) (g : Group) → At gs m g → SmallGroup g
each_at [] _ m g e = elim e [ ]
each_at (h ∷ hs) (one, all) zero g e = subst SmallGroup (sym e) one
each_at (h ∷ hs) (one, all) (suc m) g at = each_at hs all m g at

module _ (o : Order) where
  -- the answer to the line of a load case alone is that to its record
  pub own_line_lem : (c : LoadCases) → Small c → (m : ℕ) (g : Group) → At c.groups m g → answer_to o (own_line c g) ≡ record_answer o (alone c g)
  unfolding Small Spells
  own_line_lem c (wall, (some, few, all), inner) m g at =
      let one = one_case (alone c g) in
      let small : Small one = (wall, (omega arith, omega arith, (each_at c.groups all m g at, tt)), inner) in
      let short : length (text one) ≤ 512 = omega (arith, text_short one small) in
      sym (answer_read o (text one) short (form_of (text one)) refl one (read_text (text one) one (small, inl refl)) (cases_answer o one) refl) ∙ one_answer o c.wall g c.inner

  module _ (c : LoadCases) where
    own_judged : (n : ℕ) (gs : List Group) → ((m : ℕ) (g : Group) → At gs m g → answer_to o (own_line c g) ≡ Ok (judgement_of_record o (alone c g))) → OwnJudged (answer_to o) c n gs (judgements o c n gs)
    unfolding judgements
    own_judged n [] own = tt
    own_judged n (g ∷ gs) own = (own 0 g refl, (refl, own_judged (suc n) gs (λ m h at. own (suc m) h at)))

  -- of load cases with a judgement
  module _ (l : List ℕ) (c : LoadCases) (spelt : Spells l c) (j : Judgement) (f : cases_answer o c ≡ Ok j) where
    own_is : (m : ℕ) (g : Group) → At c.groups m g → answer_to o (own_line c g) ≡ Ok (judgement_of_record o (alone c g))
    unfolding Spells
    own_is m g at = own_line_lem c spelt.0 m g at ∙ alone_judged o c j f m g at

    by_cases : (gs : List Group) → c.groups ≡ gs → 1 ≤ length gs → ByOwnLines (answer_to o) l j
    unfolding judgements
    by_cases [] h none = absurd (omega arith)
    by_cases (g ∷ gs) h _ =
        record {
          cases = c;
          spelt = spelt;
          head = judgement_of_record o (alone c g);
          others = judgements o c 2 gs;
          own = subst (λ (x : List Group). OwnJudged (answer_to o) c 1 c.groups (judgements o c 1 x)) h (own_judged c 1 c.groups own_is);
          is = sym (judged_by o c j f).1 ∙ ap (λ (x : List Group). governs (judgements o c 1 x)) h;
        }

  -- a judgement of the program's goes by the lines of the load cases alone
  pub by_own_lines : (l : List ℕ) (j : Judgement) → answer_to o l ≡ Ok j → ByOwnLines (answer_to o) l j
  by_own_lines l j e = go (answer_to o l) (answer_right o l) e refl
    where
      go : (a : Answer) → RightLine o l a → a ≡ Ok j → a ≡ answer_to o l → ByOwnLines (answer_to o) l j
      go _ (too_long h) f is = absurd (let z : ◌≡◌ {A = ℕ} 0 1 = cc in omega arith)
      go _ (not_form h none) f is = absurd (let z : ◌≡◌ {A = ℕ} 0 1 = cc in omega arith)
      go _ (of_cases c a h spelt right) f is =
          by_cases l c spelt j (answer_read o l h (form_of l) refl c (read_text l c spelt) (cases_answer o c) refl ∙ sym is ∙ f) c.groups refl (spells_some l c spelt)

  -- and a line is refused by the number of one of them, if it spells load cases
  pub refused_own : (l : List ℕ) (c : LoadCases) (n : Refusal) → length l ≤ 512 → Spells l c → answer_to o l ≡ Err n → (m : ℕ) × ((g : Group) × (At c.groups m g × (answer_to o (own_line c g) ≡ Err n)))
  unfolding Spells
  refused_own l c n h spelt e =
      let is : cases_answer o c ≡ Err n = answer_read o l h (form_of l) refl c (read_text l c spelt) (cases_answer o c) refl ∙ e in
      let (m, (g, (at, f))) = refused_alone o c (spells_some l c spelt) n is in
      (m, (g, (at, own_line_lem c spelt.0 m g at ∙ f)))

  -- and by some number if one of them is refused
  pub own_refused : (l : List ℕ) (c : LoadCases) → length l ≤ 512 → Spells l c → (m : ℕ) (g : Group) → At c.groups m g → (n : Refusal) → answer_to o (own_line c g) ≡ Err n → (k : Refusal) × (answer_to o l ≡ Err k)
  unfolding Spells
  own_refused l c h spelt m g at n e =
      let (k, is) = alone_refused o c m g at n (sym (own_line_lem c spelt.0 m g at) ∙ e) in
      (k, sym (answer_read o l h (form_of l) refl c (read_text l c spelt) (cases_answer o c) refl) ∙ is)

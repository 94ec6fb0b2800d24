-- A line whose d is missing is read as one with a d of 0, and has its answer. Assumes nothing.
use Rattle.answer.specs.Answers.{Answer}
use Rattle.std.proofs.Common.{Option, Some, None}
use mathlib.Core.Path.{◌≡◌, refl, sym, ◌∙◌, subst}
use Prim.Native.Nat.{ℕ, ◌*◌, ◌≤◌}
use native.Mathlib.Omega.{arith}
use mathlib.Core.Logic.{◌↔◌, inl, inr}
use mathlib.Core.List.{List, [], ◌∷◌, ◌++◌}
use lib.ListN.{length, length-append}
use Rattle.pressure.specs.declared.Order.{Order}
use Rattle.text.specs.Bytes.{ascii, decimal}
use Rattle.text.proofs.Laws.{decimal_length}
use Rattle.format.specs.Texts.{Each}
use Rattle.record.specs.declared.Ring.{Ring}
use Rattle.record.specs.declared.Ring.TheVariants.{Stress, Wind}
use Rattle.record.specs.declared.Group.{Group}
use Rattle.cases.specs.Cases.{LoadCases, RightCases}
use Rattle.cases.specs.Answering.{cases_answer}
use Rattle.reading.specs.Text.{SmallNumber, SmallRing, SmallGroup, SmallInner, Small, ring_text, group_text, groups_text, inner_text, text, text_without_shortfall, Spells}
use Rattle.reading.specs.Reading.{form_of}
use Rattle.reading.specs.Answers.{RightLine, too_long, not_form, of_cases}
use Rattle.reading.specs.Answering.{answer_to}
use Rattle.reading.proofs.Inverse.{read_text, spells_once}
use Rattle.reading.proofs.Answers.{answer_read}

-- two lines that spell the same record have the same answer
pub same_record : (o : Order) (l m : List ℕ) (c : LoadCases) → length l ≤ 512 → length m ≤ 512 → Spells l c → Spells m c → answer_to o l ≡ answer_to o m
same_record o l m c h h' is is' =
    sym (answer_read o l h (form_of l) refl c (read_text l c is) (cases_answer o c) refl) ∙ answer_read o m h' (form_of m) refl c (read_text m c is') (cases_answer o c) refl

-- and the same answers are right for both
pub same_record_right : (o : Order) (l m : List ℕ) (c : LoadCases) → length l ≤ 512 → length m ≤ 512 → Spells l c → Spells m c → (a : Answer) → RightLine o l a → RightLine o m a
same_record_right o l m c h h' is is' _ (too_long k) = absurd (omega arith)
same_record_right o l m c h h' is is' _ (not_form k none) = absurd (none c is)
same_record_right o l m c h h' is is' a (of_cases d _ k that right) = of_cases c a h' is' (subst (λ (x : LoadCases). RightCases o x a) (spells_once l d c that is) right)

-- ---- the lines of a record are short enough

digits : (n : ℕ) → SmallNumber n → length (decimal n) ≤ 7
digits n h = decimal_length 6 n h

ring_short_lem : (r : Ring) → SmallRing r → length (ring_text r) ≤ 22
ring_short_lem (Stress σφ) h = omega (arith, digits σφ h)
ring_short_lem (Wind w v) (h, h') = simp length-append (omega (arith, digits w h, digits v h'))

inner_short : (i : Option ℕ) → SmallInner i → length (inner_text i) ≤ 16
inner_short None h = omega arith
inner_short (Some p) h = simp length-append (omega (arith, digits p h))

group_short : (g : Group) → SmallGroup g → length (ascii " " ++ group_text g) ≤ 48
group_short g (σx, ring, τ) = simp length-append (omega (arith, digits _ σx, ring_short_lem g.ring ring, digits _ τ))

groups_short : (gs : List Group) → Each SmallGroup gs → length (groups_text gs) ≤ 48 * length gs
groups_short [] all = omega arith
groups_short (g ∷ gs) (one, all) = omega (arith, length-append (ascii " " ++ group_text g) (groups_text gs), group_short g one, groups_short gs all)

module _ (c : LoadCases) where
  -- a line is the longest with eight groups and seven digits in each number
  pub text_short : Small c → length (text c) ≤ 471
  unfolding text Small
  text_short ((r, t, l, E, fy, edges, a, d), (some, few, all), p) =
      let le = groups_short c.groups all in
      simp length-append (omega (arith, digits _ r, digits _ t, digits _ l, digits _ E, digits _ fy, digits _ edges, digits _ a, digits _ d, le, few, inner_short c.inner p))

  pub text_without_shorter : length (text_without_shortfall c) ≤ length (text c)
  unfolding text text_without_shortfall
  text_without_shorter = simp length-append (omega arith)

  -- SCOPE 20.9: a line with seven numbers, and the same line with 0 as the eighth, have the same answer
  module _ (small : Small c) (zero : c.wall.shortfall ≡ 0) where
    most : length (text c) ≤ 512
    most = omega (arith, text_short small)

    lacks : Spells (text_without_shortfall c) c
    unfolding Spells
    lacks = (small, inr (zero, refl))

    full : Spells (text c) c
    unfolding Spells
    full = (small, inl refl)

    short : length (text_without_shortfall c) ≤ 512
    short = omega (arith, text_without_shorter, most)

    pub without_shortfall : (o : Order) → answer_to o (text_without_shortfall c) ≡ answer_to o (text c)
    without_shortfall o = same_record o (text_without_shortfall c) (text c) c short most lacks full

    pub without_shortfall_right : (o : Order) (a : Answer) → RightLine o (text_without_shortfall c) a ↔ RightLine o (text c) a
    without_shortfall_right o a = (
      λ r. same_record_right o (text_without_shortfall c) (text c) c short most lacks full a r,
      λ r. same_record_right o (text c) (text_without_shortfall c) c most short full lacks a r,
    )

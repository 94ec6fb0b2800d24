-- Laws for the code: a turn of the loop over the lines, and the outcome case by case.
-- Assumes nothing.
use mathlib.Core.Path.{◌≡◌, ap, ◌∙◌}
use Prim.Native.Nat.{ℕ, ◌+◌, ◌*◌, ◌≤◌}
use native.Mathlib.Omega.{arith}
use mathlib.Core.List.{List, ◌∷◌, map}
use lib.ListN.{length}
use borrow.Author.Tests.{leb-true}
use Rattle.text.specs.Bytes.{lines}
use Rattle.text.specs.Slices.{put}
use Rattle.text.proofs.Laws.{put_all}
use Rattle.lines.specs.declared.Lines.{Lines}
use Rattle.lines.specs.Left.{lines_left}
use Rattle.std.specs.Prelude.{Ok, Err}
use Rattle.answer.specs.declared.Refusal.{Refusal}
use Rattle.answer.specs.Answers.{Answer}
use Rattle.answer.specs.Checks.{AllPassed}
use Rattle.answer.specs.Answering.{refusal_by}
use Rattle.answer.proofs.Checks.{refusal_none, refused_first, passed_first}
use Rattle.listing.proofs.Totals.{listing_room}
use Rattle.outcome.specs.declared.Listed.{Listed}
use Rattle.outcome.specs.Sheet.{listing_by, sheet_checks, Outcome, turned_back, listed_by}
use Rattle.outcome.specs.Running.{ruled, listing, outcome}

-- ---- the loop over the lines

-- the answers to the lines that are left
abbrev pub left : Lines → List Answer
left it = map ruled (lines_left it)

pub left_next : (it next : Lines) (line : List ℕ) (a : Answer) → lines_left it ≡ line ∷ lines_left next → a ≡ ruled line → left it ≡ a ∷ left next
left_next it next line a e is = rw is (ap (map ruled) e)

-- ---- the room that a listing takes

pub sheet_room : (sheet : List ℕ) → length (lines sheet) ≤ 1024 → length (listing sheet) ≤ 24 * length (lines sheet) + 40
unfolding listing_by
sheet_room sheet h = listing_room ruled (lines sheet) h

-- ---- the outcome, case by case

-- a sheet and a buffer that pass every check
pub record Accepted (sheet : List ℕ) (room : ℕ) : Type 0 where
  pub short : length sheet ≤ 65535
  pub few : length (lines sheet) ≤ 1024
  pub enough : 24 * length (lines sheet) + 40 ≤ room

pub accepted : (sheet : List ℕ) (room : ℕ) → AllPassed (sheet_checks sheet room) → Accepted sheet room
accepted sheet room (s, (f, (e, u))) = record { short = leb-true _ _ s; few = leb-true _ _ f; enough = leb-true _ _ e }

module _ (sheet out : List ℕ) where
  pub outcome_turned : (e : Refusal) → Err e ≡ refusal_by (sheet_checks sheet (length out)) → ◌≡◌ {A = Outcome × List ℕ} (turned_back e, out) (outcome sheet out)
  unfolding outcome
  outcome_turned e is = refused_first (sheet_checks sheet (length out)) (λ m. (turned_back m, out)) _ e is

  module _ (is : Ok tt ≡ refusal_by (sheet_checks sheet (length out))) where
    pub outcome_accepted : Accepted sheet (length out)
    outcome_accepted = accepted sheet (length out) (refusal_none (sheet_checks sheet (length out)) is)

    pub outcome_fits : length (listing sheet) ≤ length out
    outcome_fits = let a = outcome_accepted in omega (arith, sheet_room sheet a.few, a.enough)

    pub outcome_listed : (w : Listed) (out' : List ℕ) → w ≡ listed_by ruled sheet → out' ≡ put out 0 (listing sheet) → ◌≡◌ {A = Outcome × List ℕ} (Ok w, out') (outcome sheet out)
    unfolding outcome
    outcome_listed w out' a b =
        ap (λ (q : Listed). (Ok q, out')) a
        ∙ ap (λ (l : List ℕ). (Ok (listed_by ruled sheet), l)) (b ∙ put_all out (listing sheet) outcome_fits)
        ∙ passed_first (sheet_checks sheet (length out)) (λ m. (turned_back m, out)) _ is

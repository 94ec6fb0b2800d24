-- Demand 3 (SCOPE 9.3 to 9.13) as one claim about a run: of the rule by which lines are answered, the sheet's bytes, the listing buffer at entry, what
-- is returned, and the buffer at exit. A rule is a function of a line's bytes alone; the contract of `run` names one for all sheets.
use Rattle.std.specs.Prelude.{ℕ, ◌+◌, ◌≤◌, ◌<◌, ◌≡◌, true, List, [], ◌∷◌, ◌++◌, length, take, drop, Ok}
use Rattle.pressure.specs.declared.Order.TheVariants.{PressureFirst}
use Rattle.text.specs.Bytes.{ascii, lines, lacks_newline}
use Rattle.answer.specs.declared.Judgement.{Judgement}
use Rattle.answer.specs.declared.Refusal.{Refusal}
use Rattle.answer.specs.Answers.{Answer}
use Rattle.answer.specs.Checks.{FirstBroken, AllPassed}
use Rattle.reading.specs.Answers.{RightLine, ByOwnLines, MeansLine}
use Rattle.listing.specs.Listing.{entry, total}
use Rattle.outcome.specs.declared.Listed.{Listed}
use Rattle.outcome.specs.Sheet.{line_at, listing_by, sheet_checks, Outcome, turned_back, listed_by}

-- turned back by the first check broken, with the buffer untouched; or listed, with the listing at the start of the buffer and the bytes past it as they were
pub data Run (rule : List ℕ → Answer) (sheet out : List ℕ) (r : Outcome) (out' : List ℕ) : Type 0 where
  turned : (e : Refusal) → FirstBroken (sheet_checks sheet (length out)) e → r ≡ turned_back e → out' ≡ out → Run rule sheet out r out'
  listed : AllPassed (sheet_checks sheet (length out)) → r ≡ Ok (listed_by rule sheet) → out' ≡ listing_by rule sheet ++ drop (length (listing_by rule sheet)) out →
      Run rule sheet out r out'

-- what is in the buffer up to the returned length
abbrev pub written : Listed → List ℕ → List ℕ
written l out' = take l.length out'

-- a listing as it is read back from the buffer: a line for each line of the sheet, for the answer to it, and then the total line
pub record ReadBack (rule : List ℕ → Answer) (sheet out : List ℕ) (r : Listed) (out' : List ℕ) : Type 0 where
  pub fits : r.length ≤ length out'
  pub same_size : length out' ≡ length out
  pub line_count : length (lines (written r out')) ≡ length (lines sheet) + 1
  pub line_at_lem : (k : ℕ) → k < length (lines sheet) → line_at (written r out') k ≡ entry (k + 1) (rule (line_at sheet k))
  pub last : line_at (written r out') (length (lines sheet)) ≡ total r.counts
  pub lines_are : r.counts.lines ≡ length (lines sheet)
  pub counted_once : r.counts.lines ≡ r.counts.holds + r.counts.fails + r.counts.opens + r.counts.refused

pub record Demand3 (rule : List ℕ → Answer) (sheet out : List ℕ) (r : Outcome) (out' : List ℕ) : Type 0 where
  pub run : Run rule sheet out r out'
  -- the answer to a line is right, and its verdict means what is laid down of the line
  pub right : (l : List ℕ) → RightLine PressureFirst l (rule l)
  pub verdict_means : (l : List ℕ) (j : Judgement) → rule l ≡ Ok j → MeansLine PressureFirst l j
  -- each load case of a line has the verdict, L and U that the rule gives it on a line of its own, and the line those of the one that governs
  pub own_lines : (l : List ℕ) (j : Judgement) → rule l ≡ Ok j → ByOwnLines rule l j
  pub read_back : (w : Listed) → r ≡ Ok w → ReadBack rule sheet out w out'
  -- the same line is listed with the same answer, at every place of every sheet that is run
  pub same_answer : (sheet₂ out₂ out₂' : List ℕ) (r₂ : Outcome) → Run rule sheet₂ out₂ r₂ out₂' → (w w₂ : Listed) → r ≡ Ok w → r₂ ≡ Ok w₂ →
      (k m : ℕ) → k < length (lines sheet) → m < length (lines sheet₂) → line_at sheet k ≡ line_at sheet₂ m →
      (a : Answer) × ((line_at (written w out') k ≡ entry (k + 1) a) × (line_at (written w₂ out₂') m ≡ entry (m + 1) a))
  -- with the last newline and without it: the same is returned and written, if both are accepted
  pub final_newline : lacks_newline sheet ≡ true → (out₂ out₂' : List ℕ) (r₂ : Outcome) → Run rule (sheet ++ (10 ∷ [])) out₂ r₂ out₂' → (w w₂ : Listed) → r ≡ Ok w → r₂ ≡ Ok w₂ →
      (w₂ ≡ w) × (written w₂ out₂' ≡ written w out')
  pub empty_sheet : sheet ≡ [] → (w : Listed) → r ≡ Ok w → written w out' ≡ ascii "(total 0 0 0 0 0)\n"

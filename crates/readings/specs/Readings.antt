-- SCOPE 27.3 to 27.5: a sheet judged by both readings of the pressure's test, with a row for each line whose verdicts differ.
use Rattle.std.specs.Prelude.{ℕ, ◌+◌, ◌≤◌, ◌≡◌, ◌⊎◌, List, [], ◌∷◌, ◌++◌, length, drop, eqb, Result, Ok, Err, Option, None, Some}
use Rattle.algebra.specs.Choice.{pick}
use Rattle.text.specs.Bytes.{ascii, decimal, lines}
use Rattle.pressure.specs.declared.Order.TheVariants.{ToleranceFirst, PressureFirst}
use Rattle.answer.specs.declared.Refusal.{Refusal}
use Rattle.answer.specs.declared.Verdict.{Verdict}
use Rattle.answer.specs.Answers.{verdict_number, Answer}
use Rattle.answer.specs.Checks.{FirstBroken, AllPassed}
use Rattle.record.specs.Limits.{pressure_of}
use Rattle.cases.specs.Cases.{LoadCases}
use Rattle.reading.specs.Text.{Spells}
use Rattle.reading.specs.Answers.{RightLine, Changed}
use Rattle.listing.specs.Listing.{verdict_word, ended}
use Rattle.outcome.specs.declared.TurnedBack.{TurnedBack}
use Rattle.outcome.specs.Sheet.{sheet_checks, turned_back_by}

-- ---- a row

-- two verdicts that differ; none, where they are the same or an answer is a refusal
abbrev pub change_of : Answer → Answer → Option (Verdict × Verdict)
change_of (Ok i) (Ok j) = pick (eqb (verdict_number i.verdict) (verdict_number j.verdict)) None (Some (i.verdict, j.verdict))
change_of (Ok i) (Err n) = None
change_of (Err n) b = None

-- (k old new) and a newline, or nothing
abbrev pub row : ℕ → Option (Verdict × Verdict) → List ℕ
row k None = []
row k (Some (old, new)) = ended (ascii "(" ++ decimal k ++ ascii " " ++ verdict_word old ++ ascii " " ++ verdict_word new ++ ascii ")")

-- the rows of lines by two rules, counted from k
unfoldable pub rows : (List ℕ → Answer) → (List ℕ → Answer) → ℕ → List (List ℕ) → List ℕ
rows old new k [] = []
rows old new k (l ∷ ls) = row k (change_of (old l) (new l)) ++ rows old new (k + 1) ls

-- those of a sheet
abbrev pub rows_of : (List ℕ → Answer) → (List ℕ → Answer) → List ℕ → List ℕ
rows_of old new sheet = rows old new 1 (lines sheet)

-- ---- a run

-- turned back by the first check broken, with the buffer untouched; or compared, with the rows at the start of the buffer and the bytes past them as they were
pub data Compares (old new : List ℕ → Answer) (sheet out : List ℕ) (r : Result ℕ TurnedBack) (out' : List ℕ) : Type 0 where
  turned : (e : Refusal) → FirstBroken (sheet_checks sheet (length out)) e → r ≡ Err (turned_back_by e) → out' ≡ out → Compares old new sheet out r out'
  compared : AllPassed (sheet_checks sheet (length out)) → r ≡ Ok (length (rows_of old new sheet)) →
      out' ≡ rows_of old new sheet ++ drop (length (rows_of old new sheet)) out → Compares old new sheet out r out'

-- the length that is returned, of the rows or of a sheet that is turned back
abbrev pub rows_length : Result ℕ TurnedBack → ℕ
rows_length (Ok n) = n
rows_length (Err t) = t.length

pub record Readings (old new : List ℕ → Answer) (sheet out : List ℕ) (r : Result ℕ TurnedBack) (out' : List ℕ) : Type 0 where
  pub run : Compares old new sheet out r out'
  -- the rows have room in the buffer
  pub fits : rows_length r ≤ length out'
  -- each answer is right by its reading
  pub old_right : (l : List ℕ) → RightLine ToleranceFirst l (old l)
  pub new_right : (l : List ℕ) → RightLine PressureFirst l (new l)
  -- a line without pressure, or with a up to 1,000, has one answer
  pub alike : (l : List ℕ) (c : LoadCases) → Spells l c → (pressure_of c.inner ≡ 0) ⊎ (c.wall.imperfection ≤ 1000) → old l ≡ new l
  -- a line whose answers differ loses the gain, or a reading is in doubt; and no other has a row
  pub changed : (l : List ℕ) → ¬ (old l ≡ new l) → Changed l

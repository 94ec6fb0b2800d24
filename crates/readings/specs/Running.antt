-- How the program compares the readings. Nobody has to believe this: `readings_right` (proofs/Laws.antt) says what `comparison` gives.
use Rattle.std.specs.Prelude.{ℕ, List, ◌++◌, length, drop, Result, Ok, Err}
use Rattle.pressure.specs.declared.Order.TheVariants.{ToleranceFirst, PressureFirst}
use Rattle.answer.specs.Answering.{first_or}
use Rattle.reading.specs.Answering.{answer_to}
use Rattle.outcome.specs.declared.TurnedBack.{TurnedBack}
use Rattle.outcome.specs.Sheet.{sheet_checks, turned_back_by}
use Rattle.readings.specs.Readings.{rows_of}

abbrev pub differences : List ℕ → List ℕ
differences sheet = rows_of (answer_to ToleranceFirst) (answer_to PressureFirst) sheet

-- what a run returns, and what it leaves in the buffer
unfoldable pub comparison : List ℕ → List ℕ → Result ℕ TurnedBack × List ℕ
comparison sheet out =
    first_or (λ e. (Err (turned_back_by e), out))
    (Ok (length (differences sheet)), differences sheet ++ drop (length (differences sheet)) out) (sheet_checks sheet (length out))

-- How the program runs a sheet. Nobody has to believe this: `demand_3` (proofs/Demand3.antt) says what `outcome` gives.
use Rattle.std.specs.Prelude.{ℕ, List, ◌++◌, length, drop, Ok}
use Rattle.pressure.specs.declared.Order.TheVariants.{PressureFirst}
use Rattle.answer.specs.Answers.{Answer}
use Rattle.answer.specs.Answering.{first_or}
use Rattle.reading.specs.Answering.{answer_to}
use Rattle.outcome.specs.Sheet.{answers_by, listing_by, sheet_checks, Outcome, turned_back, listed_by}

-- the rule: pressure first
abbrev pub ruled : List ℕ → Answer
ruled = answer_to PressureFirst

abbrev pub answers : List ℕ → List Answer
answers sheet = answers_by ruled sheet

abbrev pub listing : List ℕ → List ℕ
listing sheet = listing_by ruled sheet

-- what a run returns, and what it leaves in the listing buffer
unfoldable pub outcome : List ℕ → List ℕ → Outcome × List ℕ
outcome sheet out =
    first_or (λ r. (turned_back r, out)) (Ok (listed_by ruled sheet), listing sheet ++ drop (length (listing sheet)) out) (sheet_checks sheet (length out))

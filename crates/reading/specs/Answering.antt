-- How the program answers a line. Nobody has to believe this: `answer_right` (proofs/Answers.antt) says what `answer_to` gives.
use Rattle.answer.specs.declared.Refusal.{Refusal}
use Rattle.answer.specs.Answers.{Answer}
use Rattle.std.specs.Prelude.{ℕ, List, length, ltb, Err, Option, Some, None}
use Rattle.pressure.specs.declared.Order.{Order}
use Rattle.algebra.specs.Choice.{pick}
use Rattle.cases.specs.Answering.{cases_answer}
use Rattle.reading.specs.Answers.{line_most}
use Rattle.cases.specs.Cases.{LoadCases}
use Rattle.reading.specs.Reading.{form_of}

-- load cases are answered; a line that spells none is not the form
abbrev pub answer_form : Order → Option LoadCases → Answer
answer_form o None = Err Refusal.Form
answer_form o (Some c) = cases_answer o c

unfoldable pub answer_to : Order → List ℕ → Answer
answer_to o l = pick (ltb line_most (length l)) (Err Refusal.LineBytes) (answer_form o (form_of l))

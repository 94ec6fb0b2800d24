-- `sheet::answer` meets its contract. Assumes nothing.
use mathlib.Core.Path.{◌≡◌, ap, ◌∙◌}
use native.Mathlib.Omega.{arith}
use Rattle.std.specs.Prelude.{Option, Err}
use Rattle.std.specs.Option.{option_map, ok_or}
use Rattle.std.proofs.lemmas.Result.{err_from_is_err_and}
use Rattle.answer.specs.declared.Refusal.{Refusal}
use Rattle.cases.specs.declared.Cases.{Cases}
use Rattle.cases.specs.Answering.{load_cases}
use Rattle.reading.proofs.Answers.{answer_long, answer_other, answer_read, right_of}
use Rattle.sheet.proofs.answer.Goals as goal

pub returns-then-line-gt-LINE_MOST : goal.returns-then-line-gt-LINE_MOST
returns-then-line-gt-LINE_MOST c = let e = answer_long _ _ (omega arith) in record { right_line = right_of _ _ _ e; value = e }

pub returns-in_err-ok_or : goal.returns-in_err-ok_or
returns-in_err-ok_or c =
    let none = c.in_err-ok_or.ensures.ok_part in
    let given = err_from_is_err_and c.from_residual.result c.from_residual.ensures.1 in
    let error = c.in_err-ok_or.ensures.value ∙ ap (λ (r : Option Cases). ok_or r Refusal.Form) none in
    let form : given.0 ≡ Refusal.Form = given.2 ∙ cc in
    let e = given.1 ∙ ap Err form ∙ answer_other _ _ (omega arith) _ c.read.ensures.value (ap (option_map load_cases) none) in
    record { right_line = right_of _ _ _ e; value = e }

pub returns : goal.returns
returns c =
    let some = ap (option_map load_cases) c.in_ok-ok_or.ensures.ok_part in
    let e = answer_read _ _ (omega arith) _ c.read.ensures.value _ some _ c.answer.ensures.value in
    record { right_line = right_of _ _ _ e; value = e }

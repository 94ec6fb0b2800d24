-- `cases::Cases::answer` meets its contract. Assumes nothing.
use mathlib.Core.Path.{◌≡◌, sym, ap, ◌∙◌, subst}
use Rattle.std.specs.Prelude.{Ok, Err}
use Rattle.pressure.specs.declared.Order.{Order}
use Rattle.answer.specs.Answers.{Answer}
use Rattle.answer.proofs.Checks.{returned, refusal_none, refused_first, passed_first}
use Rattle.cases.specs.declared.Cases.{Cases}
use Rattle.cases.specs.Cases.{case_checks, RightCases}
use Rattle.cases.specs.Answering.{load_cases, Counted, cases_answer}
use Rattle.cases.proofs.Right.{cases_right}
use Rattle.cases.proofs.Cases.answer.Goals as goal

-- what the program answers is right
laid : (o : Order) (c : Cases) → Counted c → (a : Answer) → a ≡ cases_answer o (load_cases c) → (a ≡ cases_answer o (load_cases c)) × RightCases o (load_cases c) a
laid o c some a e = (e, subst (RightCases o (load_cases c)) (sym e) (cases_right o (load_cases c) some))

pub returns-in_err-check : goal.returns-in_err-check
unfolding cases_answer
returns-in_err-check c =
    let self = c.args.self.now in
    let f = laid c.args.o self c.requires _ (returned _ _ c.from_residual.ensures.1 ∙ refused_first (case_checks (load_cases self)) Err _ _ c.in_err-check.ensures) in
    record { value = f.0; right_cases = f.1 }

pub invariant_of-judgement : goal.invariant_of-judgement
invariant_of-judgement c = record { counted = c.requires; passed = refusal_none (case_checks (load_cases c.args.self.now)) c.in_ok-check.ensures }

pub returns : goal.returns
unfolding cases_answer
returns c =
    let self = c.args.self.now in
    let f = laid c.args.o self c.requires _ (ap Ok c.judgement.ensures ∙ passed_first (case_checks (load_cases self)) Err _ c.in_ok-check.ensures) in
    record { value = f.0; right_cases = f.1 }

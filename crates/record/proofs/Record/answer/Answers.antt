-- `record::Record::answer` meets its contract. Assumes nothing.
use mathlib.Core.Path.{◌≡◌, sym, ap, subst}
use Rattle.std.specs.Prelude.{Ok, Err}
use Rattle.pressure.specs.declared.Order.{Order}
use Rattle.answer.specs.Answers.{Answer}
use Rattle.answer.proofs.Checks.{returned}
use Rattle.record.specs.declared.Record.{Record}
use Rattle.record.specs.Right.{Right}
use Rattle.record.specs.Answering.{judgement_of_record, record_answer}
use Rattle.record.proofs.Checks.{by_valid}
use Rattle.record.proofs.Right.{record_right}
use Rattle.record.proofs.Record.answer.Goals as goal

-- what the program answers is right
laid : (o : Order) (c : Record) (a : Answer) → a ≡ record_answer o c → (a ≡ record_answer o c) × Right o c a
laid o c a e = (e, subst (Right o c) (sym e) (record_right o c))

pub returns-in_err-valid : goal.returns-in_err-valid
unfolding record_answer
returns-in_err-valid c =
    let o = c.args.o in
    let f = laid o c.args.self _ (by_valid Err (λ d. Ok (judgement_of_record o d)) _ c.args.self (Err _) c.in_err-valid.ensures (returned _ _ c.from_residual.ensures.1)) in
    record { value = f.0; right = f.1 }

pub returns : goal.returns
unfolding record_answer
returns c =
    let o = c.args.o in
    let f = laid o c.args.self _ (by_valid Err (λ d. Ok (judgement_of_record o d)) _ c.args.self (Ok c.in_ok-valid.field-0) c.in_ok-valid.ensures (ap Ok c.judgement.ensures)) in
    record { value = f.0; right = f.1 }

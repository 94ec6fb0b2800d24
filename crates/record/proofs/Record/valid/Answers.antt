-- `record::Record::valid` meets its contract. Assumes nothing.
use Rattle.answer.proofs.Checks.{returned, refusal_broken, refusal_none}
use Rattle.record.specs.Limits.{checks}
use Rattle.record.proofs.Record.valid.Goals as goal

pub returns-in_err-check : goal.returns-in_err-check
returns-in_err-check c = rw (returned _ _ c.from_residual.ensures.1) (refusal_broken (checks c.args.self) _ c.in_err-check.ensures)

pub invariant_of-result : goal.invariant_of-result
invariant_of-result c = record { passed = refusal_none (checks c.args.self) c.in_ok-check.ensures }

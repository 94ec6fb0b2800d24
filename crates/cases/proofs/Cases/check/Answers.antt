-- `cases::Cases::check` meets its contract. Assumes nothing.
use mathlib.Core.Path.{ap, ◌∙◌}
use Rattle.answer.specs.Answering.{refusal_by}
use Rattle.record.specs.declared.Record.{Record}
use Rattle.record.specs.Limits.{checks}
use Rattle.cases.specs.Answering.{load_cases}
use Rattle.cases.proofs.Checks.{stands_refused}
use Rattle.cases.proofs.Cases.check.Goals as goal

pub returns : goal.returns
returns c =
    c.check.ensures
    ∙ ap (λ (r : Record). refusal_by (checks r)) c.alone.ensures
    ∙ stands_refused (load_cases c.args.self.now) c.earliest.result c.earliest.ensures

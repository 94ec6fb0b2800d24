-- `cases::ValidCases::first` meets its contract. Assumes nothing.
use mathlib.Core.Path.{sym, subst}
use lib.ListN.{get_or}
use Rattle.answer.specs.Checks.{AllPassed}
use Rattle.record.specs.declared.Record.{Record}
use Rattle.record.specs.Limits.{checks}
use Rattle.cases.specs.Answering.{load_cases, no_group}
use Rattle.cases.proofs.Right.{alone_passed}
use Rattle.cases.proofs.Wanting.{there_at}
use Rattle.cases.proofs.ValidCases.first.Goals as goal

pub invariant_of-result : goal.invariant_of-result
invariant_of-result c =
    let self = c.args.self.given.now in
    record {
      passed =
          subst (λ (r : Record). AllPassed (checks r)) (sym c.case_at.ensures)
          (alone_passed (load_cases self) c.args.self.passed 0 (get_or self.groups 0 no_group) (there_at self.groups 0 c.args.self.counted));
    }

-- `record::ValidRecord::cylinder` meets its contract. Assumes nothing.
use Rattle.record.proofs.Loads.{limits_fit}
use Rattle.record.proofs.ValidRecord.cylinder.Goals as goal

pub invariant_of-result : goal.invariant_of-result
invariant_of-result c = record { in_limits = limits_fit c.args.self.given c.args.self.passed _ c.cylinder.ensures }

-- `record::Record::gain` meets its contract. Assumes nothing.
use Rattle.std.proofs.Common.{rules}
use Rattle.line_bounds.specs.declared.Gain.TheVariants.{Idle}
use Rattle.line_bounds.specs.Places.{gain_of}
use Rattle.record.specs.Limits.{pressure_of, cylinder_of}
use Rattle.record.specs.Answering.{gain_of_record}
use Rattle.record.proofs.Checks.{by_valid}
use Rattle.record.proofs.Pressure.{record_gain}
use Rattle.record.proofs.Record.gain.Goals as goal

pub returns : goal.returns
unfolding gain_of_record
returns c =
    let o = c.args.o in
    let f = record_gain o c.args.self _ (by_valid (λ n. Idle) (λ d. gain_of o (cylinder_of d.wall) (pressure_of d.inner)) _ _ _ c.valid.ensures (search rules)) in
    record { value = f.0; gain_means = f.1 }

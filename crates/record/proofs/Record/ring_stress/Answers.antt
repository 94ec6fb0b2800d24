-- `record::Record::ring_stress` meets its contract. Assumes nothing.
use Rattle.std.proofs.Common.{rules}
use Rattle.record.specs.Limits.{cylinder_of}
use Rattle.record.specs.Right.{ring_stress}
use Rattle.record.specs.Answering.{ring_stress_of}
use Rattle.record.proofs.Checks.{by_valid}
use Rattle.record.proofs.Record.ring_stress.Goals as goal

pub returns : goal.returns
unfolding ring_stress_of
returns c = by_valid (λ n. 0) (λ d. ring_stress (cylinder_of d.wall) d.group.ring) _ _ _ c.valid.ensures (search rules)

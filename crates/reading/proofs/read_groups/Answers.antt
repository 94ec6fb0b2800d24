use mathlib.Core.List.{[], ◌∷◌}
use native.Mathlib.Omega.{arith}
use lib.ListN.{length-append}
use Rattle.reading.specs.Reading.{group}
use Rattle.reading.proofs.Parts.{read_none, read_more, read_stops, read_full}
use Rattle.reading.proofs.read_groups.Goals as goal

pub loop-init : goal.loop-init
loop-init c = rw c.new-groups.ensures (omega arith, read_none group 8 c.args.rest.now)

pub returns-in_default : goal.returns-in_default
returns-in_default c = read_stops group 8 c.args.rest.now c.loop.invariant.1 (omega arith) c.in_default.ensures

pub loop-preserved : goal.loop-preserved
loop-preserved c = rw c.push.ensures (omega (arith, length-append c.loop.groups (c.in-Some.group ∷ [])), read_more group 8 c.args.rest.now c.loop.invariant.1 (omega arith) c.in-Some.ensures)

pub returns : goal.returns
returns c = read_full group 8 c.args.rest.now c.loop.invariant.1 (omega arith)

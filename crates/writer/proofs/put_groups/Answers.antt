use mathlib.Core.Path.{ap}
use lib.Seq.{take_all}
use Rattle.text.proofs.Laws.{puts_none, puts_as}
use Rattle.reading.specs.Text.{groups_text}
use Rattle.writer.proofs.Puts.{group_fits, group_puts}
use Rattle.writer.proofs.put_groups.Goals as goal

pub loop-i-init : goal.loop-i-init
loop-i-init c = puts_none _

pub put_group-requires : goal.put_group-requires
put_group-requires c = group_fits c.args.groups.now c.loop-i.i c.loop-i-test.true c.loop-i.invariant c.requires

pub loop-i-preserved : goal.loop-i-preserved
loop-i-preserved c = group_puts c.args.groups.now c.loop-i.i c.loop-i-test.true c.loop-i.invariant c.put_group.ensures

pub returns : goal.returns
returns c = puts_as (ap groups_text (take_all c.loop-i.i c.args.groups.now c.loop-i-test.false)) c.loop-i.invariant

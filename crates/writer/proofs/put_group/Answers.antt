use Rattle.text.proofs.Laws.{puts_then, puts_as}
use Rattle.writer.proofs.Puts.{group_joined}
use Rattle.writer.proofs.put_group.Goals as goal

pub returns : goal.returns
returns c = puts_as (group_joined c.args.g) (puts_then (puts_then (puts_then (puts_then (puts_then c.put.ensures c.number.ensures) c.put-2.ensures) c.put_ring.ensures) c.spaced.ensures) c.put-3.ensures)

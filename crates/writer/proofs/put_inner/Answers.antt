use Rattle.text.proofs.Laws.{puts_none, puts_then, puts_as}
use Rattle.writer.proofs.Puts.{pressure_joined}
use Rattle.writer.proofs.put_inner.Goals as goal

pub returns-in-Some : goal.returns-in-Some
returns-in-Some c = rw c.in-Some.is (puts_as (pressure_joined c.in-Some.p) (puts_then (puts_then c.put.ensures c.number.ensures) c.put-in-Some.ensures))

pub returns-in_default : goal.returns-in_default
returns-in_default c = rw c.in_default.is (puts_none _)

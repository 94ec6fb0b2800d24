use Rattle.text.proofs.Laws.{puts_none}
use Rattle.readings.proofs.put_row.Goals as goal

pub returns-in_default : goal.returns-in_default
returns-in_default c = rw c.in_default.is (puts_none _)

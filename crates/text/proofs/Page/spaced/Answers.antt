use Rattle.text.proofs.Laws.{puts_then}
use Rattle.text.proofs.Page.spaced.Goals as goal

pub returns : goal.returns
returns c = puts_then c.put.ensures c.number.ensures

use Rattle.text.proofs.Laws.{puts_then}
use Rattle.listing.specs.Listing.{entry_by}
use Rattle.entry.proofs.put_numbered.Goals as goal

pub returns : goal.returns
unfolding entry_by
returns c = puts_then (puts_then (puts_then c.put.ensures c.number.ensures) c.put_said.ensures) c.put-2.ensures

-- `ideal::ring_short_order` meets its contract. Assumes nothing.
use Rattle.ideal.proofs.Rows.{ring_short_row}
use Rattle.ideal.proofs.ring_short_order.Goals as goal

pub returns : goal.returns
returns c = let s = c.args in ring_short_row s.s s.p s.q c.ring_edges-c.result c.ring_edges-c.ensures.0 c.compare.ensures

-- `ideal::ring_long_order` meets its contract. Assumes nothing.
use Rattle.ideal.proofs.Rows.{ring_long_row}
use Rattle.ideal.proofs.ring_long_order.Goals as goal

pub returns : goal.returns
returns c = let s = c.args in ring_long_row s.s s.p s.q c.ring_edges-c.result c.ring_edges-c.ensures.0 c.compare_sum.ensures

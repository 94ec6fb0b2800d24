-- `ideal::axial_short_order` meets its contract. Assumes nothing.
use Rattle.ideal.proofs.Rows.{axial_short_row}
use Rattle.ideal.proofs.axial_short_order.Goals as goal

pub returns : goal.returns
returns c = let s = c.args in axial_short_row s.s s.p s.q c.compare_sum.ensures

-- `ideal::axial_floor_order` meets its contract. Assumes nothing.
use Rattle.ideal.proofs.Rows.{axial_floor_row}
use Rattle.ideal.proofs.axial_floor_order.Goals as goal

pub returns : goal.returns
returns c = let s = c.args in axial_floor_row s.s s.p s.q c.compare.ensures

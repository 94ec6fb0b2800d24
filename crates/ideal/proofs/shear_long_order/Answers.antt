-- `ideal::shear_long_order` meets its contract. Assumes nothing.
use Rattle.ideal.proofs.Rows.{shear_long_row}
use Rattle.ideal.proofs.shear_long_order.Goals as goal

pub returns : goal.returns
returns c = let s = c.args in shear_long_row s.s s.p s.q c.compare.ensures

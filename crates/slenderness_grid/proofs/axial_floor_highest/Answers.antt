-- `slenderness_grid::axial_floor_highest` meets its contract. Assumes nothing.
use Rattle.slenderness_grid.proofs.Rows.{axial_floor_row}
use Rattle.slenderness_grid.proofs.axial_floor_highest.Goals as goal

pub returns : goal.returns
returns c = let a = c.args in axial_floor_row a.s a.g.q a.g.cap a.g.small.2 c.root.ensures

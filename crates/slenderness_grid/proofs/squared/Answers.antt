-- `slenderness_grid::squared` meets its contract. Assumes nothing.
use Rattle.interval.proofs.Bounds.{around_as}
use Rattle.slenderness_grid.proofs.Seen.{square_times}
use Rattle.slenderness_grid.proofs.squared.Goals as goal

pub returns : goal.returns
returns c n a = around_as _ (square_times n _) (c.times-2.ensures _ _ (c.times.ensures n n a a) c.of.ensures)

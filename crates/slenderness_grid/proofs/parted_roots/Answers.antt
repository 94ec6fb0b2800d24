-- `slenderness_grid::parted_roots` meets its contract. Assumes nothing.
use Rattle.slenderness_grid.proofs.parted_roots.Goals as goal

pub returns : goal.returns
returns c n m a b = c.parted.ensures _ _ (c.squared.ensures n a) (c.squared-2.ensures m b)

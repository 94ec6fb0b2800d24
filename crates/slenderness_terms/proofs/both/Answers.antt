-- `slenderness_terms::both` meets its contract. Assumes nothing.
use Rattle.slenderness_terms.proofs.both.Goals as goal

pub returns : goal.returns
returns c = c.times.ensures _ _ c.of.ensures c.of-2.ensures

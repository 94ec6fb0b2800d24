-- `slenderness_terms::three` meets its contract. Assumes nothing.
use Rattle.slenderness_terms.proofs.three.Goals as goal

pub returns : goal.returns
returns c = c.times.ensures _ _ c.both.ensures c.of.ensures

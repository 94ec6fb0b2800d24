-- `wind::above` meets its contract. Assumes nothing.
use mathlib.Core.Path.{refl, ◌∙◌}
use Rattle.wind.proofs.Rows.{above_factors}
use Rattle.wind.proofs.above.Goals as goal

pub returns : goal.returns
returns c = (above_factors _ _ _ ∙ rw c.ring_edges-c.ensures.0, refl)

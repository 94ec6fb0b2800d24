-- `product_samples::fifths` meets its contract. Assumes nothing.
use mathlib.Core.Path.{◌∙◌}
use native.Mathlib.Nat.{mul-one}
use Rattle.product_samples.proofs.fifths.Goals as goal

pub returns : goal.returns
returns c = c.at_most.ensures ∙ rw (c.times.ensures.is, c.fifth-f.ensures.is, c.fifth-g.ensures.is) (simp mul-one)

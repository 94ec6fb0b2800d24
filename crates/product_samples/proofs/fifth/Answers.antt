-- `product_samples::fifth` meets its contract. Assumes nothing.
use Rattle.std.proofs.Common.{ℕ, ◌^◌, ◌∙◌, ap, arith}
use Rattle.product_samples.proofs.fifth.Goals as goal

pub returns : goal.returns
returns c = record { within = omega arith; is = c.fifth_power.ensures.is ∙ ap (λ (x : ℕ). x ^ 5) c.product_of.ensures.is }

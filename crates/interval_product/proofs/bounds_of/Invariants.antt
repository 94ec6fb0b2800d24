use mathlib.Core.Path.{◌≡◌}
use Prim.Native.Nat.{ℕ, ◌*◌}
use lib.ListN.{drop}
use Rattle.factors.specs.Product.{prod}
use Rattle.interval_product.specs.Bounds.{BoundsOf}
use Rattle.interval_product.proofs.bounds_of.Given as goal

-- bounds of a number that, times w and the factors that are left, is the whole product
abbrev pub invariant-loop-y : goal.invariant-loop-y
invariant-loop-y l = (m : ℕ) × (BoundsOf l.n m) × (m * l.w * prod (drop l.y-index l.f) ≡ l.x * prod l.f)

-- `interval_product::joined` meets its contract. Assumes nothing.
use mathlib.Core.Path.{◌≡◌}
use Prim.Native.Nat.{ℕ, ◌*◌}
use native.Mathlib.Omega.{arith}
use Rattle.interval.proofs.Bounds.{around_as}
use Rattle.interval_product.proofs.joined.Goals as goal

alone : (m w : ℕ) → m ≡ 1 → w ≡ m * w
alone m w h = rw h (omega arith)

pub returns-in-Some : goal.returns-in-Some
returns-in-Some c m h = c.times.ensures m _ (rw c.in-Some.is at h) c.of.ensures

pub returns-in-None : goal.returns-in-None
returns-in-None c m h = around_as _ (alone m _ (rw c.in-None.is at h)) c.of-in-None.ensures

-- `millionths::fifth` meets its contract. Assumes nothing.
use mathlib.Core.Path.{◌≡◌, refl}
use mathlib.Core.List.{[], ◌∷◌}
use Prim.Native.Nat.{ℕ, ◌*◌, ◌^◌}
use Rattle.algebra.proofs.Ring.{ring, quoted}
use Rattle.interval.proofs.Bounds.{around_as}
use Rattle.millionths.proofs.fifth.Goals as goal

power : (n : ℕ) → n * n * (n * n) * n ≡ n ^ 5
power n = ring (n ∷ []) (search quoted depth 60 fits 100000) refl

pub returns : goal.returns
returns c n a =
    let s = c.times-s.ensures n n a a in
    around_as _ (power n) (c.times-2.ensures _ n (c.times.ensures _ _ s s) a)

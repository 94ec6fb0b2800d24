-- `slenderness_grid::root_highest` meets its contract. Assumes nothing.
use mathlib.Core.Path.{◌≡◌}
use Prim.Native.Nat.{ℕ}
use Rattle.interval.specs.Around.{Around}
use Rattle.roots.specs.Degree.{degree}
use Rattle.roots.specs.Largest.{largest}
use Rattle.slenderness_grid.proofs.Searches.{found_or}
use Rattle.slenderness_grid.proofs.root_highest.Goals as goal

pub returns : goal.returns
returns g c x y t exact =
    found_or _ _ _ c.settled.ensures c.unwrap_or_else.ensures (λ h. exact _ h) (λ (k : ℕ) (w : (n m : ℕ) → Around c.args.t.c n → Around c.raised-y.result m → k ≡ largest (degree c.args.d) c.args.g.cap n m). w x _ t.for_c (c.raised-y.ensures y t.for_d))

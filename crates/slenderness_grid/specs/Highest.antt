-- The largest point of a grid that a number reaches, up to a cap.
-- Nobody has to believe this: only contracts between crates speak of it.
use Rattle.std.specs.Prelude.{◌≡◌, true, false, ℕ, ◌+◌, ◌≤◌, ◌<◌}
use Rattle.cylinder.specs.Cut.{Cut}

-- r is the largest k up to the cap such that c reaches k/q
pub record Highest (c : Cut) (q cap r : ℕ) : Type 0 where
  pub most : r ≤ cap
  pub reached : c.reaches r q ≡ true
  pub missed : r < cap → c.reaches (r + 1) q ≡ false

-- Whether so many kN/m² are enough for the ring stress of wind, in whole numbers.
-- Nobody has to believe this: `enough_agrees` (proofs/Agree.antt) has that it is the test of Wind.
use Rattle.std.specs.Prelude.{ℕ, ◌+◌, ◌*◌, ◌-◌, ◌^◌, ◌≤◌, ◌<◌, Bool, ◌||◌, leb}
use Rattle.cylinder.specs.declared.Cylinder.{Cylinder}
use Rattle.cylinder.specs.WholeIdeal.{ring_edges}

-- by the cap of δ
abbrev pub by_cap : Cylinder → ℕ → ℕ → ℕ → Bool
by_cap s w v m = leb ((5 + 3 * v) * (s.radius * w)) (m * (25 * s.wall))

-- The part of the stress that has the root, times 250 walls, is the fourth root of `above` over `below`.
abbrev pub above : Cylinder → ℕ → ℕ
above s w = 279841 * ring_edges s.edges ^ 2 * s.radius ^ 7 * w ^ 4

abbrev pub below : Cylinder → ℕ
below s = 800 * s.length ^ 2 * s.wall

-- the root is at most d
abbrev pub root_within : Cylinder → ℕ → ℕ → Bool
root_within s w d = leb (above s w) (below s * d ^ 4)

-- what m leaves for the root, times 250 walls; 0 where m is less than the part with no root
abbrev pub rest : Cylinder → ℕ → ℕ → ℕ → ℕ
rest s w v m = m * (250 * s.wall) - (23 + 30 * v) * (s.radius * w)

unfoldable pub enough : Cylinder → ℕ → ℕ → ℕ → Bool
enough s w v m = by_cap s w v m || root_within s w (rest s w v m)

-- m is n/d, rounded up
abbrev pub RoundedUp : ℕ → ℕ → ℕ → Type 0
RoundedUp n d m = (n ≤ m * d) × (m * d < n + d)

-- What bounds say of a number.
-- Nobody has to believe this: only contracts between crates speak of it.
use Rattle.std.specs.Prelude.{◌≡◌, ℕ, ◌+◌, ◌*◌, ◌^◌, ◌≤◌, ◌<◌, Option, Some, None}
use Rattle.std.specs.Ordering.{nat_cmp}
use Rattle.std.specs.declared.cmp.Ordering.{Ordering}
use Rattle.interval.specs.declared.Interval.{Interval}

-- one more than the largest bound
abbrev pub top : ℕ
top = 18446744073709551616

-- 2 ^ u, not multiplied out
unfoldable pub power : ℕ → ℕ
power u = 2 ^ u

-- numbers are scaled by this, so that no power is negative
abbrev pub scale : ℕ
scale = power 4096

-- x lies between low and low + gap, times a power
abbrev pub Enclosed : (low gap up x : ℕ) → Type 0
Enclosed low gap up x = (low * power up ≤ x * scale) × (x * scale ≤ (low + gap) * power up)

-- x lies between the bounds, if these say anything
abbrev pub Around : Interval → ℕ → Type 0
Around a x = 0 < a.low → Enclosed a.low a.gap a.up x

-- x and y are in that order, if any is seen
abbrev pub Lies : Option Ordering → ℕ → ℕ → Type 0
Lies (Some o) x y = o ≡ nat_cmp x y
Lies None x y = Unit {0}

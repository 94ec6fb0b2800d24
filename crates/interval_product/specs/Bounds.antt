-- What bounds that may not be there yet say of a number.
-- Nobody has to believe this: only a contract of this crate speaks of it.
use Rattle.std.specs.Prelude.{◌≡◌, ℕ, Option, Some, None}
use Rattle.interval.specs.declared.Interval.{Interval}
use Rattle.interval.specs.Around.{Around}

-- m is 1 where there are none
abbrev pub BoundsOf : Option Interval → ℕ → Type 0
BoundsOf (Some a) m = Around a m
BoundsOf None m = m ≡ 1

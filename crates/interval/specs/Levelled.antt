-- What the functions of this crate tell each other. Nobody has to believe this: only contracts of this crate speak of it.
use Rattle.std.specs.Prelude.{ℕ, ◌≤◌, ◌<◌}
use Rattle.interval.specs.declared.Interval.{Interval}
use Rattle.interval.specs.declared.Pair.{Pair}
use Rattle.interval.specs.Around.{Enclosed, Around}

-- the gap and the power are small
pub record Fits (a : Interval) : Type 0 where
  pub gap_most : a.gap ≤ 4294967296
  pub up_least : 2016 ≤ a.up
  pub up_most : a.up ≤ 8192

-- two numbers at one power: their bounds and gaps can be added
pub record Levelled (a b : Interval) (p : Pair) : Type 0 where
  pub a_most : p.a < 9223372036854775808
  pub g_most : p.g ≤ 2147483650
  pub b_most : p.b < 9223372036854775808
  pub h_most : p.h ≤ 2147483650
  pub first : (x : ℕ) → Around a x → Enclosed p.a p.g p.up x
  pub second : (y : ℕ) → Around b y → Enclosed p.b p.h p.up y

-- How many millionths a power of b/a reaches, up to 2,000,000.
-- Nobody has to believe this: only contracts between crates speak of it, and `reached_is` (term's proofs/Millionths.antt) has that it is what a term reaches.
use Rattle.std.specs.Prelude.{ℕ, ◌*◌, ◌^◌}
use Rattle.roots.specs.Largest.{largest}
use Rattle.millionths.specs.declared.Power.{Power}
use Rattle.millionths.specs.declared.Power.TheVariants.{FiveQuarters, ThreeSquares}

abbrev pub reached_by : Power → ℕ → ℕ → ℕ
reached_by FiveQuarters a b = largest 4 2000000 (a ^ 5) (b ^ 5 * 1000000 ^ 4)
reached_by ThreeSquares a b = largest 1 2000000 (a ^ 2) (3 * b ^ 2 * 1000000)

-- Where a number lies to the limits of the curves' branches.
-- Nobody has to believe this: cylinder's proofs/SumBounds.antt has that the bounds are right.
use Rattle.std.specs.Prelude.{◌≡◌}
use Rattle.cylinder.specs.Cut.{Cut}
use Rattle.bounds.specs.declared.Limits.{Limits}

-- the limits, as the curves' definitions write them
pub record Sides (c : Cut) (b : Limits) : Type 0 where
  pub within_quarter : b.within_quarter ≡ c.within 25 100
  pub within_two_fifths : b.within_two_fifths ≡ c.within 4 10
  pub within_one : b.within_one ≡ c.within 1 1
  pub within_three_halves : b.within_three_halves ≡ c.within 15 10
  pub reaches_six_fifths : b.reaches_six_fifths ≡ c.reaches 12 10
  pub reaches_three_halves : b.reaches_three_halves ≡ c.reaches 15 10
  pub reaches_two : b.reaches_two ≡ c.reaches 2 1

-- The answers of a three-way comparison of a fraction p/q with a number that is known by its tests.
-- Nobody has to believe this: only contracts between crates speak of it.
use Rattle.std.specs.Prelude.{◌≡◌, ℕ}
use Rattle.std.specs.declared.cmp.Ordering.{Ordering}
use Rattle.std.specs.Ordering.{is_le, is_ge}
use Rattle.cylinder.specs.Cut.{Cut}

-- o is how p/q compares with the number
pub record Decides (o : Ordering) (c : Cut) (p q : ℕ) : Type 0 where
  pub reaches : is_le o ≡ c.reaches p q
  pub within : is_ge o ≡ c.within p q

-- What the verdict may be read as, for every sum that is given by the test "over x/y": holds (U ≤ 10,000) only if the exact sum is at most 1,
-- fails (L > 10,000) only if it is over 1, and open only if it is from 0.9999 to 1.0002 where L and U are close, and from 0.99 to 1.01 where they are 100 apart.
use Prim.Native.Nat.{ℕ, ◌+◌, ◌*◌, ◌≤◌, ◌<◌}
use native.Mathlib.Nat.{mul-le-mul_right, mul-lt-mul_of_pos_right, lt_of_mul-lt-mul_right}
use native.Mathlib.Omega.{arith}
use lib.Dec.{lit<}
use Rattle.cylinder.specs.Exact.{AtMost, AtLeast, Encloses, Close, SumOver}

-- over p/q, and so over a smaller or equal x/y
abbrev pub Downward : (ℕ → ℕ → Type 0) → Type 0
Downward Over = (p q x y : ℕ) → 0 < q → 0 < y → x * q ≤ p * y → Over p q → Over x y

-- u/v < x/y ≤ p/q
less : (u v x y p q : ℕ) → 0 < q → x * q ≤ p * y → u * y < x * v → u * q < p * v
less u v x y p q qpos le lt = lt_of_mul-lt-mul_right y (omega (arith, mul-le-mul_right v le, mul-lt-mul_of_pos_right lt qpos))

pub sum_over_down : (X Y Z : ℕ → ℕ → Type 0) → Downward (SumOver X Y Z)
sum_over_down X Y Z p q x y qpos ypos le o =
    record {
      b = o.b;
      c = o.c;
      d = o.d;
      N = o.N;
      positive = o.positive;
      first = o.first;
      second = o.second;
      third = o.third;
      over = below o.N (o.b + o.c + o.d) o.over;
    }
  where
    below : (n m : ℕ) → p * n < m * q → x * n < m * y
    below n m lt = lt_of_mul-lt-mul_right q (omega (arith, mul-le-mul_right n le, mul-lt-mul_of_pos_right lt ypos))

module _ (Over : ℕ → ℕ → Type 0) where
  pub at_most_up : Downward Over → (x y p q : ℕ) → 0 < y → 0 < q → x * q ≤ p * y → AtMost Over x y → AtMost Over p q
  at_most_up down x y p q ypos qpos le h o = h (down p q x y qpos ypos le o)

  pub at_least_down : (p q x y : ℕ) → 0 < q → x * q ≤ p * y → AtLeast Over p q → AtLeast Over x y
  at_least_down p q x y qpos le h u v lt = h u v (less u v x y p q qpos le lt)

module _ {Over : ℕ → ℕ → Type 0} {L U : ℕ} (e : Encloses Over L U) where
  pub fails_only : 10000 < L → Over 1 1
  fails_only lt = e.at_least 1 1 (omega arith)

  module _ (down : Downward Over) where
    pub holds_only : U ≤ 10000 → AtMost Over 1 1
    holds_only le = at_most_up Over down U 10000 1 1 (lit< tt) (lit< tt) (omega arith) (e.at_most_lem (omega arith))

    pub open_only : Close L U → 10000 < U → L ≤ 10000 → AtLeast Over 9999 10000 × AtMost Over 10002 10000
    open_only close lt le = (
      at_least_down Over L 10000 9999 10000 (lit< tt) (omega arith) e.at_least,
      at_most_up Over down U 10000 10002 10000 (lit< tt) (lit< tt) (omega arith) (e.at_most_lem (omega arith)),
    )

    -- the band of SCOPE 9.13, at the width of SCOPE 6.4
    pub open_band : U ≤ L + 100 → 10000 < U → L ≤ 10000 → AtLeast Over 99 100 × AtMost Over 101 100
    open_band width lt le = (
      at_least_down Over L 10000 99 100 (lit< tt) (omega arith) e.at_least,
      at_most_up Over down U 10000 101 100 (lit< tt) (lit< tt) (omega arith) (e.at_most_lem (omega arith)),
    )

-- SCOPE 5.6, 5.7 and 6.1 to 6.4: what is said of an exact sum, whatever its terms are. A sum is given by what it exceeds: by the predicate
-- "over x/y".
use Rattle.std.specs.Prelude.{ℕ, ◌+◌, ◌*◌, ◌<◌, ◌≤◌}

-- it is at most x/y if it is not over x/y
abbrev pub AtMost : (ℕ → ℕ → Type 0) → ℕ → ℕ → Type 0
AtMost Exceeds x y = ¬ (Exceeds x y)

-- it is at least x/y if it is over every smaller fraction
abbrev pub AtLeast : (ℕ → ℕ → Type 0) → ℕ → ℕ → Type 0
AtLeast Exceeds x y = (u v : ℕ) → u * y < x * v → Exceeds u v

-- what L and U claim, in ten-thousandths
pub record Encloses (Exceeds : ℕ → ℕ → Type 0) (L U : ℕ) : Type 0 where
  pub at_least : AtLeast Exceeds L 10000
  pub at_most_lem : U < 20000 → AtMost Exceeds U 10000
  pub L-most : L ≤ 20000
  pub U-most : U ≤ 20000

-- and how far apart they are: SCOPE 6.4 allows 100, and 2 are kept (decision 26)
abbrev pub Close : ℕ → ℕ → Type 0
Close L U = U ≤ L + 2

-- a sum of three terms, each given by the fractions b/N that it reaches, is over x/y
pub record SumOver (X Y Z : ℕ → ℕ → Type 0) (x y : ℕ) : Type 0 where
  pub b : ℕ
  pub c : ℕ
  pub d : ℕ
  pub N : ℕ
  pub positive : 0 < N
  pub first : X b N
  pub second : Y c N
  pub third : Z d N
  pub over : x * N < (b + c + d) * y

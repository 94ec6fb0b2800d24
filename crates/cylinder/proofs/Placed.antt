-- A number on the grid: where it lies to a fraction a/b follows from the largest k/q that it reaches, if a/b is a point of the grid.
use mathlib.Core.Path.{◌≡◌, refl, sym, ◌∙◌}
use mathlib.Core.Bool.{Bool, true, false}
use mathlib.Core.Logic.{◌⊎◌, inl, inr}
use Prim.Native.Nat.{ℕ, ◌+◌, ◌*◌, ◌≤◌, ◌<◌}
use native.Mathlib.Nat.{mul-le-mul_right, lt_of_mul-lt-mul_right, lt_of_not-le, not-le_of_lt}
use native.Mathlib.Omega.{arith}
use lib.Dec.{leb, lit<}
use borrow.Author.Tests.{le-leb, lt-leb}
use Rattle.cylinder.specs.Cut.{Cut}
use Rattle.algebra.proofs.Tests.{clash}
use Rattle.cylinder.proofs.Lawful.{Lawful}

-- k/q is the largest point that s reaches. The points with the denominator 20 are on the grid, which is fine, and finer below 2.
pub record Placed (s : Cut) (k q v : ℕ) : Type 0 where
  pub grid : q ≡ 20 * v
  pub fine : 400000 ≤ v
  pub finer : s.reaches 2 1 ≡ false → 10000000 ≤ v
  pub reached : s.reaches k q ≡ true
  pub missed : s.reaches (k + 1) q ≡ false

module _ (s : Cut) (law : Lawful s) where
  -- p/q is reached: it answers at a/b as s does, if it is not below a/b where s is not
  pub same_reaches : (p q a b : ℕ) → 0 < q → s.reaches p q ≡ true → (s.reaches a b ≡ true → a * q ≤ p * b) → leb (a * q) (p * b) ≡ s.reaches a b
  same_reaches p q a b pos r up = go (s.reaches a b) refl
    where
      go : (v : Bool) → s.reaches a b ≡ v → leb (a * q) (p * b) ≡ s.reaches a b
      go true e = le-leb (a * q) (p * b) (up e) ∙ sym e
      go false e = lt-leb (a * q) (p * b) (lt_of_not-le (λ le. clash (law.down p q a b pos le r) e)) ∙ sym e

  pub same_within : (p q a b : ℕ) → s.reaches p q ≡ true → (s.within a b ≡ false → a * q < p * b) → leb (p * b) (a * q) ≡ s.within a b
  same_within p q a b r up = go (s.within a b) refl
    where
      go : (v : Bool) → s.within a b ≡ v → leb (p * b) (a * q) ≡ s.within a b
      go true e = le-leb (p * b) (a * q) (law.meet p q a b r e) ∙ sym e
      go false e = lt-leb (p * b) (a * q) (up e) ∙ sym e

  -- s is over a/b: it reaches a/b
  pub reaches_over : (a b : ℕ) → 0 < b → s.within a b ≡ false → s.reaches a b ≡ true
  reaches_over a b pos e = let o = law.above a b pos e in law.down o.p' o.q' a b o.positive (omega (arith, o.over)) o.reached

  -- s does not reach a/b, and so no fraction from there on
  pub misses_over : (a b p q : ℕ) → 0 < q → a * q ≤ p * b → s.reaches a b ≡ false → s.reaches p q ≡ false
  misses_over a b p q pos le out = go (s.reaches p q) refl
    where
      go : (v : Bool) → s.reaches p q ≡ v → s.reaches p q ≡ false
      go true e = absurd (clash (law.down p q a b pos le e) out)
      go false e = e

  module _ (k q v : ℕ) (at : Placed s k q v) where
    pub grid_pos : 0 < q
    grid_pos = omega arith

    -- a/b is m/20
    module _ (a b m : ℕ) (pos : 0 < b) (on : 20 * a ≡ m * b) where
      pub placed_from : s.reaches a b ≡ true → a * q ≤ k * b
      placed_from r = let lt : m * v < k + 1 = lt_of_mul-lt-mul_right b (omega (arith, point, above)) in omega (arith, point, mul-le-mul_right b lt)
        where
          above : a * q < (k + 1) * b
          above = lt_of_not-le (λ le. clash (law.down a b (k + 1) q pos le r) at.missed)

          scaled : (a b m q v : ℕ) → 20 * a ≡ m * b → q ≡ 20 * v → a * q ≡ m * v * b
          scaled a b m q v e f = rw f (omega (arith, times e))
            where
              times : 20 * a ≡ m * b → 20 * a * v ≡ m * b * v
              times e = rw e

          point : a * q ≡ m * v * b
          point = scaled a b m q v on at.grid

      -- s reaches a/b exactly if k/q does
      pub placed_reaches : s.reaches a b ≡ leb (a * q) (k * b)
      placed_reaches = sym (same_reaches k q a b grid_pos at.reached placed_from)

      -- s is at most a/b if k/q is below
      pub placed_within : k * b < a * q → s.within a b ≡ true
      placed_within lt = go (s.within a b) refl
        where
          go : (w : Bool) → s.within a b ≡ w → s.within a b ≡ true
          go true e = e
          go false e = absurd (not-le_of_lt lt (placed_from (reaches_over a b pos e)))

    -- s is over a/b if k/q is
    pub placed_over : (a b : ℕ) → a * q < k * b → s.within a b ≡ false
    placed_over a b lt = sym (same_within k q a b at.reached (λ e. lt)) ∙ lt-leb (k * b) (a * q) lt

    -- k/q is not over what s does not reach
    pub placed_below : (a b : ℕ) → s.reaches a b ≡ false → k * b < a * q
    placed_below a b out = lt_of_not-le (λ le. clash (law.down k q a b grid_pos le at.reached) out)

    -- far out, or finer
    pub far_or_finer : (2 * q ≤ k * 1) ⊎ (10000000 ≤ v)
    far_or_finer = go (s.reaches 2 1) refl
      where
        go : (b : Bool) → s.reaches 2 1 ≡ b → (2 * q ≤ k * 1) ⊎ (10000000 ≤ v)
        go true e = inl (placed_from 2 1 40 (lit< tt) refl e)
        go false e = inr (at.finer e)

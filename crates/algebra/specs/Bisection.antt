-- The largest number that passes a test, by halving; and what it is to be that number.
-- Nobody has to believe this: `bisect_only` (proofs/Bisection.antt) says that the halving ends at the one edge.
use Rattle.std.specs.Prelude.{◌≡◌, Bool, true, false, ℕ, zero, suc, ◌+◌, ◌/◌, ◌≤◌}

-- For an lo that passes and an hi that fails, at most 2 ^ n apart: after n halvings they are neighbours. The half that is not taken is not computed.
unfoldable pub bisect : (ℕ → Bool) → ℕ → ℕ → ℕ → ℕ
bisect f zero lo hi = lo
bisect f (suc n) lo hi = let m : ℕ = (lo + hi) / 2 in elim (f m) [ true ↦ bisect f n m hi | false ↦ bisect f n lo m ]

-- r passes, and the next number does not.
pub record Edge (f : ℕ → Bool) (r : ℕ) : Type 0 where
  pub passes : f r ≡ true
  pub fails : f (r + 1) ≡ false

-- What is below a number that passes, passes too: then there is one edge at most.
abbrev pub Downward : (ℕ → Bool) → Type 0
Downward f = (a b : ℕ) → a ≤ b → f b ≡ true → f a ≡ true

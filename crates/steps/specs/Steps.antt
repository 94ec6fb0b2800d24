-- What a search asks of a test and what it finds.
-- Nobody has to believe this: only contracts between crates speak of it.
use Rattle.std.specs.Prelude.{ℕ, ◌+◌, ◌-◌, ◌/◌, ◌<◌, ◌≤◌, Bool, true, false, ◌&&◌, ltb, IsSome}
use Rattle.std.specs.declared.option.Option.{Option}
use Rattle.algebra.specs.Choice.{pick}

-- a test may be asked at each number from 1 to the cap
abbrev pub Askable : (ℕ → Type 0) → ℕ → Type 0
Askable pre cap = (p : ℕ) → 0 < p → p ≤ cap → pre p

-- it tells at each of them
abbrev pub Telling : (ℕ → Option Bool → Type 0) → ℕ → Type 0
Telling post cap = (p : ℕ) (o : Option Bool) → 0 < p → p ≤ cap → post p o → IsSome o

-- r is where a test changes, up to the cap: r passes, unless it is 0, and the next number fails, unless it is over the cap.
-- `says p b` is that the test may answer b at p.
pub record EdgeUpTo (says : ℕ → Bool → Type 0) (cap r : ℕ) : Type 0 where
  pub most : r ≤ cap
  pub passes : 0 < r → says r true
  pub fails : r < cap → says (r + 1) false

-- where a search asks next: at the wish, if it lies between the two, else in the middle
unfoldable pub probe_at : (lo hi wish : ℕ) → ℕ
probe_at lo hi wish = pick (ltb lo wish && ltb wish hi) wish (lo + (hi - lo) / 2)

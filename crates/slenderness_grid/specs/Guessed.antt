-- The guess at S for each branch. Nobody has to believe this: what a search finds does not depend on its guess.
use Rattle.std.specs.Prelude.{◌≡◌, Bool, true, false, ℕ, ◌+◌, ◌-◌, ◌*◌, ◌^◌, ltb}
use Rattle.algebra.specs.Choice.{pick}
use Rattle.interval.specs.declared.Interval.{Interval}
use Rattle.interval.specs.Around.{Around}
use Rattle.guess.specs.declared.Degree.{Degree}
use Rattle.guess.specs.declared.Degree.TheVariants.{Two, Four}
use Rattle.guess.specs.Guess.{guess_from}
use Rattle.interval_root.specs.Leading.{leading_of}
use Rattle.roots.specs.Degree.{degree}
use Rattle.cylinder.specs.declared.Cylinder.{Cylinder}
use Rattle.cylinder.specs.declared.Stress.{Stress}
use Rattle.cylinder.specs.declared.Stress.TheVariants.{Axial, Ring, Shear}
use Rattle.slenderness_terms.specs.declared.Terms.{Terms}

-- 2 ^ 32 times the number
unfoldable pub lifted_of : Interval → Interval
lifted_of n = pick (ltb 8192 n.up) n (record { low = n.low; gap = n.gap; up = n.up + 32 })

-- r is the guess at √(w/(200 r)) · 2 ^ 32, from bounds of the two numbers
pub record RoughRoot (s : Cylinder) (r : ℕ) : Type 0 where
  pub a : Interval
  pub b : Interval
  pub for_a : Around a (200 * s.radius)
  pub for_b : Around b s.wall
  pub is : r ≡ guess_from (leading_of a) (leading_of (lifted_of (lifted_of b))) Two

-- r is the guess at the root of d over c, in points of the finer grid, from bounds of the two
pub record PlainGuess (d : Degree) (t : Terms) (r : ℕ) : Type 0 where
  pub y : Interval
  pub for_y : (n : ℕ) → Around t.d n → Around y (200000000 ^ degree d * n)
  pub is : r ≡ guess_from (leading_of t.c) (leading_of y) d

-- the same where e times the rough root is added to c or taken off
pub record CurvedGuess (joined : ℕ → ℕ → ℕ) (d : Degree) (s : Cylinder) (t : Terms) (r : ℕ) : Type 0 where
  pub root : ℕ
  pub rough : RoughRoot s root
  pub x : Interval
  pub for_x : (c e : ℕ) → Around (lifted_of t.c) c → Around t.e e → Around x (joined c (e * root))
  pub y : Interval
  pub for_y : (n : ℕ) → Around t.d n → Around y (200000000 ^ degree d * n)
  pub is : r ≡ guess_from (leading_of x) (leading_of (lifted_of y)) d

-- of a stress, for a short cylinder or a long one
abbrev pub GuessFor : Stress → Bool → Cylinder → Terms → ℕ → Type 0
GuessFor Axial true s t r = PlainGuess Two t r
GuessFor Axial false s t r = CurvedGuess ◌-◌ Two s t r
GuessFor Ring true s t r = PlainGuess Four t r
GuessFor Ring false s t r = PlainGuess Two t r
GuessFor Shear true s t r = CurvedGuess ◌+◌ Four s t r
GuessFor Shear false s t r = PlainGuess Four t r

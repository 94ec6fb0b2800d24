-- What the searches of Search find, and that whoever finds such a number by another way has found the same.
use mathlib.Core.Path.{◌≡◌, refl}
use mathlib.Core.Bool.{Bool, true, false, ◌&&◌}
use mathlib.Core.Logic.{◌≢◌}
use Prim.Native.Nat.{ℕ, ◌*◌, ◌^◌, ◌≤◌, ◌<◌}
use native.Mathlib.Nat.{mul-le-mul_right}
use native.Mathlib.Omega.{arith}
use lib.Dec.{leb, lit≤, lit<}
use borrow.Author.Tests.{leb-true, le-leb}
use Rattle.algebra.specs.Bisection.{bisect, Edge, Downward}
use Rattle.algebra.proofs.Bisection.{bisect_edge, edge_unique}
use Rattle.algebra.specs.Choice.{pick}
use Rattle.cylinder.specs.Cut.{Cut}
use Rattle.cylinder.specs.WholeTerm.{Term, formula}
use Rattle.cylinder.specs.Search.{grid, place, most}
use Rattle.algebra.proofs.Tests.{and_true, both_true}
use Rattle.cylinder.proofs.Lawful.{Lawful, zero_pow}
use Rattle.cylinder.proofs.Placed.{Placed, misses_over}
use Rattle.cylinder.proofs.Bounds.{formula_down}

-- the grid in twentieths
pub part : Bool → ℕ
part far = pick far 400000 10000000

-- `place` is the place on the grid
pub placed : (s : Cut) → Lawful s → s.reaches 536 1 ≡ false → Placed s (place s (grid s)) (grid s) (part (s.reaches 2 1))
unfolding grid place part
placed s law far =
    record { grid = twentieths (s.reaches 2 1); fine = fine (s.reaches 2 1); finer = λ e. rw e (lit≤ tt); reached = edge.passes; missed = edge.fails }
  where
    twentieths : (b : Bool) → pick b 8000000 200000000 ≡ 20 * pick b 400000 10000000
    twentieths true = refl
    twentieths false = refl

    fine : (b : Bool) → 400000 ≤ pick b 400000 10000000
    fine true = lit≤ tt
    fine false = lit≤ tt

    top : (b : Bool) → s.reaches 2 1 ≡ b → s.reaches 4294967296 (pick b 8000000 200000000) ≡ false
    top true e = misses_over s law 536 1 4294967296 8000000 (lit< tt) (lit≤ tt) far
    top false e = misses_over s law 2 1 4294967296 200000000 (lit< tt) (lit≤ tt) e

    edge : Edge (λ k. s.reaches k (grid s)) (bisect (λ k. s.reaches k (grid s)) 32 0 4294967296)
    edge = bisect_edge (λ k. s.reaches k (grid s)) 32 0 4294967296 (lit< tt) (lit≤ tt) (law.nought (grid s)) (top (s.reaches 2 1) refl)

-- the test of `place` is downward closed, and its one edge is `place`
pub reaches_down : (s : Cut) → Lawful s → (q : ℕ) → 0 < q → Downward (λ k. s.reaches k q)
reaches_down s law q pos a b le h = law.down b q a q pos (mul-le-mul_right q le) h

pub place_is : (s : Cut) → Lawful s → s.reaches 536 1 ≡ false → (k : ℕ) → Edge (λ k. s.reaches k (grid s)) k → k ≡ place s (grid s)
place_is s law far k e =
    let at = placed s law far in
    edge_unique (λ k. s.reaches k (grid s)) (reaches_down s law (grid s) (omega (arith, at.grid, at.fine))) k (place s (grid s)) e
    (record { passes = at.reached; fails = at.missed })

-- the same of `most`
pub most_edge : (t : Term) (p q : ℕ) → t.rise ≢ 0 → Edge (λ b. leb b 2000000 && formula t p q b 1000000) (most t p q)
unfolding most
most_edge t p q nz = bisect_edge (λ b. leb b 2000000 && formula t p q b 1000000) 21 0 2000001 (lit< tt) (lit≤ tt) none refl
  where
    none : formula t p q 0 1000000 ≡ true
    none =
        le-leb (0 ^ t.rise * (t.top * t.factor.num p q ^ t.power)) (t.load * t.factor.den p q ^ t.power * 1000000 ^ t.rise)
        (rw (zero_pow t.rise nz) (omega arith))

pub most_down : (t : Term) (p q : ℕ) → Downward (λ b. leb b 2000000 && formula t p q b 1000000)
most_down t p q a b le h =
    let g = and_true (leb b 2000000) (formula t p q b 1000000) h in
    both_true (leb a 2000000) (formula t p q a 1000000) (le-leb a 2000000 (omega (arith, leb-true b 2000000 g.0)))
    (formula_down t p q b 1000000 a 1000000 (lit< tt) (mul-le-mul_right 1000000 le) g.1)

pub most_is : (t : Term) (p q r : ℕ) → t.rise ≢ 0 → Edge (λ b. leb b 2000000 && formula t p q b 1000000) r → r ≡ most t p q
most_is t p q r nz e = edge_unique (λ b. leb b 2000000 && formula t p q b 1000000) (most_down t p q) r (most t p q) e (most_edge t p q nz)

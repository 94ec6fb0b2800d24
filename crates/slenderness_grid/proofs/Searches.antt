-- Laws on the largest point that a number reaches: how the searches find it. Assumes nothing.
use mathlib.Core.Path.{◌≡◌, ◌∙◌}
use mathlib.Core.Bool.{Bool, true, false}
use Rattle.std.specs.Prelude.{IfSome, MatchOption}
use Rattle.std.specs.declared.option.Option.{Option}
use Rattle.std.specs.declared.option.Option.TheVariants.{None, Some}
use Prim.Native.Nat.{ℕ, ◌+◌, ◌*◌, ◌^◌, ◌<◌}
use native.Mathlib.Nat.{mul-le-mul_right}
use native.Mathlib.Decide.{dec_lt}
use native.Mathlib.Omega.{arith}
use lib.Dec.{leb}
use borrow.Author.Tests.{leb-true, le-leb}
use Rattle.algebra.specs.Bisection.{Edge}
use Rattle.wide.specs.Value.{base}
use Rattle.cylinder.specs.Cut.{Cut, smaller}
use Rattle.algebra.proofs.Tests.{and_true, both_true, and_rest, missed_left, missed_right}
use Rattle.cylinder.proofs.Lawful.{Lawful}
use Rattle.roots.specs.Largest.{test, largest}
use Rattle.roots.proofs.Largest.{largest_edge}
use Rattle.steps.specs.Steps.{EdgeUpTo}
use Rattle.steps.proofs.Edges.{edge_of}
use Rattle.slenderness_grid.specs.Highest.{Highest}

-- ---- by a root

-- c reaches k/q exactly if k ^ e * X is at most Y
pub by_root : (c : Cut) (q cap e X Y : ℕ) {r : ℕ} → 0 < e → cap < base → ((k : ℕ) → c.reaches k q ≡ leb (k ^ e * X) Y) → r ≡ largest e cap X Y → Highest c q cap r
by_root c q cap e X Y {r} pos small same is =
    record {
      most = leb-true r cap pass.0;
      reached = same r ∙ pass.1;
      missed = λ lt. same (r + 1) ∙ and_rest (leb (r + 1) cap) (leb ((r + 1) ^ e * X) Y) edge.fails (le-leb (r + 1) cap (omega arith));
    }
  where
    edge : Edge (test e cap X Y) r
    edge = rw is (largest_edge e cap X Y pos small)

    pass : (leb r cap ≡ true) × (leb (r ^ e * X) Y ≡ true)
    pass = and_true (leb r cap) (leb (r ^ e * X) Y) edge.passes

-- by what bounds settle, or else exactly
pub found_or : (o : Option ℕ) (r n : ℕ) {post : Type 0} {want : ℕ → Type 0} → IfSome o want → MatchOption o post (λ k. r ≡ k) → (post → r ≡ n) → ((k : ℕ) → want k → k ≡ n) → r ≡ n
found_or None r n w m exact settled = exact m
found_or (Some k) r n w m exact settled = m ∙ settled k w

-- ---- by a search

-- the test says what c reaches
pub by_search : (c : Cut) (q cap : ℕ) {r : ℕ} {says : ℕ → Bool → Type 0} → c.reaches 0 q ≡ true → ((p : ℕ) (b : Bool) → says p b → b ≡ c.reaches p q) → EdgeUpTo says cap r → Highest c q cap r
by_search c q cap nought same edge =
    let e = edge_of (λ p. c.reaches p q) same nought edge in
    record { most = e.0; reached = e.1; missed = e.2 }

-- ---- the smaller of two numbers

-- s is looked for up to where t is found
pub both_highest : (s t : Cut) (q cap k r : ℕ) → 0 < q → Lawful t → Highest t q cap k → Highest s q k r → Highest (smaller s t) q cap r
both_highest s t q cap k r pos law up low =
    record {
      most = omega (arith, up.most, low.most);
      reached = both_true (s.reaches r q) (t.reaches r q) low.reached (law.down k q r q pos (mul-le-mul_right q low.most) up.reached);
      missed = λ lt. elim (dec_lt r k) [
        | yes h ↦ missed_left (s.reaches (r + 1) q) (t.reaches (r + 1) q) (low.missed h)
        | no h ↦ missed_right (s.reaches (r + 1) q) (t.reaches (r + 1) q) (beyond (omega (arith, low.most)) lt)
      ];
    }
  where
    beyond : r ≡ k → r < cap → t.reaches (r + 1) q ≡ false
    beyond e lt = rw e (up.missed (omega arith))

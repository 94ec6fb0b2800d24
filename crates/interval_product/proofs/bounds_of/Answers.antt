-- `interval_product::bounds_of` meets its contract. Assumes nothing.
use mathlib.Core.Path.{◌≡◌}
use mathlib.Core.List.{List}
use Prim.Native.Nat.{ℕ, ◌*◌}
use native.Mathlib.Numerals.{add-one}
use native.Mathlib.Omega.{arith}
use lib.ListN.{get_or}
use lib.Seq.{drop-cons}
use Rattle.interval_product.proofs.bounds_of.Goals as goal
use Rattle.interval_product.proofs.bounds_of.Goals.{in-Some, in-None}

-- a factor more in w, or w among the bounds
kept : (m w x r p : ℕ) → m * w * (x * r) ≡ p → m * (w * x) * r ≡ p
kept m w x r p h = omega arith

moved : (m w x r p : ℕ) → m * w * (x * r) ≡ p → m * w * x * r ≡ p
moved m w x r p h = omega arith

pub loop-y-preserved : goal.loop-y-preserved
loop-y-preserved c =
    let l = c.loop-y in
    let f : List ℕ = c.args.f.now in
    let (m, b, all) = l.invariant in
    let e = rw (drop-cons f l.y-index 0 (omega arith)) at all in
    elim c.match-checked_mul.branch [
      | in-Some w ↦ (m, rw w.n-is b, rw (w.w-is, w.in-Some.ensures.1, add-one) (kept m l.w (get_or f l.y-index 0) _ _ e))
      | in-None w ↦ (m * l.w, rw w.n-is (w.joined.ensures m b), rw (w.w-is, add-one) (moved m l.w (get_or f l.y-index 0) _ _ e))
    ]

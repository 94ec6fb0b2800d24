-- `interval::minus` meets its contract: at one power, a bound less the other bound. Assumes nothing.
use native.Mathlib.Omega.{arith}
use Rattle.interval.proofs.Bounds.{minus_low, minus_high}
use Rattle.interval.proofs.minus.Goals as goal

pub returns : goal.returns
returns c x y around_a around_b known =
    let l = c.in-Some.ensures in
    let e = c.saturating_sub.ensures in
    let p = l.first x around_a in
    let q = l.second y around_b in
    rw e (minus_low _ _ x y _ _ p.0 q.1, minus_high _ _ _ _ x y _ _ (omega (arith, e)) p.1 q.0)

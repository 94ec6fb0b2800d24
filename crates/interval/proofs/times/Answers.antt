-- `interval::times` meets its contract: lower bounds multiply, and upper bounds. Assumes nothing.
use native.Mathlib.Nat.{mul-le-mul}
use native.Mathlib.Omega.{arith}
use lib.Dec.{lit<}
use Rattle.interval.specs.Around.{top, power, scale}
use Rattle.interval.proofs.Bounds.{scale_out, power_pos, times_low, times_high, gap_times, factor_pos}
use Rattle.interval.proofs.times.Goals as goal

pub returns-then-fits-2 : goal.returns-then-fits-2
returns-then-fits-2 c x y around_a around_b known =
    let h = c.head in
    let a = c.fits.ensures c.if-fits.true in
    let b = c.fits-then-fits.ensures c.if-fits-2.true in
    let m = c.args.a in
    let n = c.args.b in
    let e = scale_out m.up n.up (omega (arith, a.up_least, b.up_least)) in
    let k = factor_pos m.low n.low h.result top known (lit< tt) h.ensures.0 in
    let g = gap_times m.low n.low h.result m.gap n.gap top (omega arith) (omega arith) (mul-le-mul a.gap_most b.gap_most) h.ensures.1 in (
      times_low _ _ _ x y (power m.up) (power n.up) _ top scale (power_pos 4096) e (around_a k.0).0 (around_b k.1).0 h.ensures.0,
      times_high _ _ _ x y (power m.up) (power n.up) _ top scale (power_pos 4096) e (around_a k.0).1 (around_b k.1).1 g,
    )

-- `interval::plus` meets its contract: at one power, bounds add. Assumes nothing.
use Rattle.interval.proofs.Bounds.{plus_low, plus_high}
use Rattle.interval.proofs.plus.Goals as goal

pub returns : goal.returns
returns c x y around_a around_b known =
    let l = c.in-Some.ensures in
    let p = l.first x around_a in
    let q = l.second y around_b in
    (plus_low _ _ x y _ _ p.0 q.0, plus_high _ _ _ _ x y _ _ p.1 q.1)

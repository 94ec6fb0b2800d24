-- `interval::parted` meets its contract: at one power, the upper bound of the one is below the lower bound of the other. Assumes nothing.
use Rattle.std.proofs.Common.{Less, Greater}
use Rattle.std.specs.Cmp.{nat_cmp_is}
use Rattle.interval.specs.Around.{scale}
use Rattle.interval.proofs.Bounds.{power_pos, apart}
use Rattle.interval.proofs.parted.Goals as goal

pub returns-then-p : goal.returns-then-p
returns-then-p c x y around_a around_b =
    let l = c.in_ok-p in
    nat_cmp_is x y Less (apart _ _ x y _ scale c.if-p.true (power_pos l.p.up) (l.ensures.first x around_a).1 (l.ensures.second y around_b).0)

pub returns-then-p-2 : goal.returns-then-p-2
returns-then-p-2 c x y around_a around_b =
    let l = c.in_ok-p in
    nat_cmp_is x y Greater (apart _ _ y x _ scale c.if-p-2.true (power_pos l.p.up) (l.ensures.second y around_b).1 (l.ensures.first x around_a).0)

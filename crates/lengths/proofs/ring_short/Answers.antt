-- `lengths::ring_short` meets its contract. Assumes nothing.
use Rattle.cylinder.specs.WholeIdeal.{ring_edges}
use Rattle.lengths.proofs.Fits.{short_from, ring_test_lem}
use Rattle.lengths.proofs.ring_short.Goals as goal

pub returns-then-r-ge11500 : goal.returns-then-r-ge11500
returns-then-r-ge11500 c = short_from c.args.s c.if-r-ge11500.true

pub returns : goal.returns
returns c =
    let s = c.args.s.cylinder in
    ring_test_lem c.ring_edges-c.result (ring_edges s.edges) s.length s.wall s.radius c.ring_edges-c.ensures.0

-- `slenderness_terms::ring_short` meets its contract. Assumes nothing.
use Rattle.cylinder.specs.WholeIdeal.{ring_edges}
use Rattle.interval.proofs.Bounds.{around_as}
use Rattle.slenderness_terms.proofs.Words.{ring_short_x_lem, ring_short_y_lem}
use Rattle.slenderness_terms.proofs.ring_short.Goals as goal

pub returns : goal.returns
returns c =
    let s = c.args.s.cylinder in
    let e = c.ring_edges-c.ensures.0 in
    record {
      for_c = rw c.plain.ensures.0 (around_as _ (ring_short_x_lem (ring_edges s.edges) s.modulus s.wall) (rw e at c.both.ensures));
      for_d = rw c.plain.ensures.1 (around_as _ (ring_short_y_lem s.radius s.length s.yield_stress) c.both-2.ensures);
    }

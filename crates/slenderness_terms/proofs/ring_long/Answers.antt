-- `slenderness_terms::ring_long` meets its contract. Assumes nothing.
use Rattle.cylinder.specs.WholeIdeal.{ring_edges}
use Rattle.interval.proofs.Bounds.{around_as}
use Rattle.slenderness_terms.proofs.Words.{ring_long_x_lem, ring_long_y_lem}
use Rattle.slenderness_terms.proofs.ring_long.Goals as goal

pub returns : goal.returns
returns c =
    let s = c.args.s.cylinder in
    let e = c.ring_edges-c.ensures.0 in
    record {
      for_c = rw c.plain.ensures.0
          (around_as _ (ring_long_x_lem s.modulus s.wall s.length (ring_edges s.edges) s.radius)
          (c.plus-x.ensures _ _ c.three.ensures (rw e at c.three-2.ensures)));
      for_d = rw c.plain.ensures.1 (around_as _ (ring_long_y_lem s.radius s.length s.yield_stress) c.three-3.ensures);
    }

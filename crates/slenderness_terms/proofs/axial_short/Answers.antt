-- `slenderness_terms::axial_short` meets its contract. Assumes nothing.
use Rattle.interval.proofs.Bounds.{around_as}
use Rattle.slenderness_terms.proofs.Words.{axial_short_x_lem, axial_short_y_lem}
use Rattle.slenderness_terms.proofs.axial_short.Goals as goal

pub returns : goal.returns
returns c =
    let s = c.args.s.cylinder in
    record {
      for_c = rw c.plain.ensures.0 (around_as _ (axial_short_x_lem s.modulus s.wall s.radius s.length) c.both.ensures);
      for_d = rw c.plain.ensures.1 (around_as _ (axial_short_y_lem s.radius s.length s.yield_stress) c.both-2.ensures);
    }

-- `slenderness_terms::shear_long` meets its contract. Assumes nothing.
use Rattle.interval.proofs.Bounds.{around_as}
use Rattle.slenderness_terms.proofs.Words.{shear_long_x_lem, shear_long_y_lem}
use Rattle.slenderness_terms.proofs.shear_long.Goals as goal

pub returns : goal.returns
returns c =
    let s = c.args.s.cylinder in
    record {
      for_c = rw c.plain.ensures.0 (around_as _ (shear_long_x_lem s.modulus s.wall) c.both.ensures);
      for_d = rw c.plain.ensures.1 (around_as _ (shear_long_y_lem s.radius s.yield_stress) c.both-2.ensures);
    }

-- `slenderness_terms::shear_short` meets its contract. Assumes nothing.
use native.Mathlib.Omega.{arith}
use Rattle.interval.proofs.Bounds.{around_as}
use Rattle.slenderness_terms.proofs.Words.{most_llff, most_wwww, shear_c, shear_d, shear_e}
use Rattle.slenderness_terms.proofs.shear_short.Goals as goal

pub overflow_mul-b-3 : goal.overflow_mul-b-3
overflow_mul-b-3 c = omega (arith, most_wwww c.args.s)

pub overflow_mul-g-3 : goal.overflow_mul-g-3
overflow_mul-g-3 c = omega (arith, most_llff c.args.s)

pub returns : goal.returns
returns c =
    let s = c.args.s.cylinder in
    record {
      for_c = around_as _ (shear_c s.modulus s.wall s.radius) c.both.ensures;
      for_d = around_as _ (shear_d s.radius s.length s.yield_stress) c.three.ensures;
      for_e = around_as _ (shear_e s.modulus s.wall s.length) c.three-2.ensures;
    }

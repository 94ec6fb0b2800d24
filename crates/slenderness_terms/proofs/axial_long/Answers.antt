-- `slenderness_terms::axial_long` meets its contract. Assumes nothing.
use Rattle.cylinder.specs.WholeIdeal.{eta}
use Rattle.interval.proofs.Bounds.{around_as}
use Rattle.slenderness_terms.proofs.Words.{bent_d}
use Rattle.slenderness_terms.proofs.axial_long.Goals as goal

pub returns : goal.returns
returns c =
    let s = c.args.s.cylinder in
    let e = c.eta-n.ensures.0 in
    record {
      for_c = rw e at c.of.ensures;
      for_d = around_as _ (bent_d (eta s.edges) s.radius s.yield_stress) (rw e at c.of-2.ensures);
      for_e = c.of-3.ensures;
    }

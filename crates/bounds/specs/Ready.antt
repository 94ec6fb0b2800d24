-- The terms of a comparison stand for their numbers in one way only, so that a struct can keep the fact.
-- Nobody has to believe this: only contracts of this crate speak of it.
use Rattle.std.specs.Prelude.{Bool, true, false}
use Rattle.std.proofs.Props.{props}
use Rattle.cylinder.specs.declared.Cylinder.{Cylinder}
use Rattle.cylinder.specs.declared.Stress.{Stress}
use Rattle.cylinder.specs.declared.Stress.TheVariants.{Axial, Ring, Shear}
use Rattle.slenderness_terms.specs.declared.Terms.{Terms}
use Rattle.slenderness_terms.specs.TermsFor.{TermsFor}

pub terms_prop : (kind : Stress) (short : Bool) (s : Cylinder) (t : Terms) → IsProp (TermsFor kind short s t)
terms_prop Axial true s t = hlevel props
terms_prop Axial false s t = hlevel props
terms_prop Ring true s t = hlevel props
terms_prop Ring false s t = hlevel props
terms_prop Shear true s t = hlevel props
terms_prop Shear false s t = hlevel props

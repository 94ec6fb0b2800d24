-- Where the related slenderness S lies. Nobody has to believe this: only contracts between crates speak of it.
use Rattle.std.specs.Prelude.{◌≡◌, Bool, true, ◌<◌, Option, Some, None, MatchOption}
use Rattle.std.proofs.Props.{props}
use Rattle.cylinder.specs.declared.ByStress.{ByStress}
use Rattle.cylinder.specs.declared.Cylinder.{Cylinder}
use Rattle.cylinder.specs.declared.Stress.{Stress}
use Rattle.cylinder.specs.declared.Stress.TheVariants.{Axial, Ring, Shear}
use Rattle.cylinder.specs.Cut.{Cut}
use Rattle.cylinder.specs.Search.{grid, place}
use Rattle.term.specs.TermOf.{Lies1, Lies2}
use Rattle.term.specs.declared.Branches.{Branches}
use Rattle.term.specs.declared.Load.{Load}
use Rattle.term.specs.declared.Point.{Point}
use Rattle.bounds.specs.Stresses.{slenderness_of}
use Rattle.bounds.specs.declared.Spot.{Spot}

-- the point is the place of c on its grid
pub record PlaceOf (c : Cut) (p : Point) : Type 0 where
  pub on_grid : p.q ≡ grid c
  pub placed : p.k ≡ place c (grid c)

-- in these branches: of κ2 for axial stress, of κ1 for the others
abbrev pub LiesFor : Stress → Cut → Branches → Type 0
LiesFor Axial c b = Lies2 c b
LiesFor Ring c b = Lies1 c b
LiesFor Shear c b = Lies1 c b

pub record SpotOf (kind : Stress) (s : Cylinder) (r : Spot) : Type 0 where
  pub at : PlaceOf (slenderness_of kind s) r.point
  pub inside : LiesFor kind (slenderness_of kind s) r.branches

-- for each stress, where it is wanted: the place is there, and it is right
pub record SpotsFor (s : Cylinder) (A R H : Type 0) (r : ByStress (Option Spot)) : Type 0 where
  pub axial : A → MatchOption r.axial ⊥ (SpotOf Axial s)
  pub ring : R → MatchOption r.ring ⊥ (SpotOf Ring s)
  pub shear : H → MatchOption r.shear ⊥ (SpotOf Shear s)

abbrev pub SpotsWanted : Cylinder → ByStress Bool → ByStress (Option Spot) → Type 0
SpotsWanted s w r = SpotsFor s (w.axial ≡ true) (w.ring ≡ true) (w.shear ≡ true) r

abbrev pub SpotsLoaded : Cylinder → ByStress Load → ByStress (Option Spot) → Type 0
SpotsLoaded s l r = SpotsFor s (0 < l.axial.num) (0 < l.ring.num) (0 < l.shear.num) r

-- a place is right in one way only, so that a struct can keep the fact
spot_prop : (kind : Stress) (s : Cylinder) (o : Option Spot) → IsProp (MatchOption o ⊥ (SpotOf kind s))
spot_prop kind s None = hlevel props
spot_prop Axial s (Some r) = hlevel props
spot_prop Ring s (Some r) = hlevel props
spot_prop Shear s (Some r) = hlevel props

pub spots_prop : (s : Cylinder) (l : ByStress Load) (r : ByStress (Option Spot)) → IsProp (SpotsLoaded s l r)
spots_prop s l r = hlevel (props, spot_prop)

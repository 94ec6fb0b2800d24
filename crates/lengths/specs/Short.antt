-- Whether a cylinder is short, by the stress.
-- Nobody has to believe this: only contracts between crates speak of it.
use Rattle.std.specs.Prelude.{Bool}
use Rattle.cylinder.specs.declared.Cylinder.{Cylinder}
use Rattle.cylinder.specs.WholeIdeal.{axial_is_short, ring_is_short, shear_is_short}
use Rattle.cylinder.specs.declared.Stress.{Stress}
use Rattle.cylinder.specs.declared.Stress.TheVariants.{Axial, Ring, Shear}

-- whether the cylinder is short for a stress
abbrev pub short_of : Stress → Cylinder → Bool
short_of Axial s = axial_is_short s
short_of Ring s = ring_is_short s
short_of Shear s = shear_is_short s

-- SCOPE 27.2: a record has the same L and U by both readings of the pressure's test where its cylinder has. Assumes nothing.
use mathlib.Core.Path.{◌≡◌}
use Rattle.cylinder.specs.Fraction.{whole}
use Rattle.pressure.specs.declared.Order.TheVariants.{ToleranceFirst, PressureFirst}
use Rattle.pressure.proofs.Orders.{SameBounds}
use Rattle.record.specs.declared.Record.{Record}
use Rattle.record.specs.Limits.{pressure_of, cylinder_of}
use Rattle.record.specs.Right.{ring_stress}
use Rattle.record.specs.Answering.{bounds_of}

pub bounds_same : (c : Record) → SameBounds (cylinder_of c.wall) (pressure_of c.inner) → bounds_of ToleranceFirst c ≡ bounds_of PressureFirst c
unfolding bounds_of
bounds_same c same = let s = cylinder_of c.wall in same (whole c.group.axial) (whole (ring_stress s c.group.ring)) (whole c.group.shear)

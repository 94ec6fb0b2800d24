-- SCOPE 6, 9.12, 9.13, 22, 25 and 27.1: what is laid down of the answer to a record.
use Rattle.std.specs.Prelude.{ℕ, ◌⊎◌}
use Rattle.cylinder.specs.declared.Cylinder.{Cylinder}
use Rattle.cylinder.specs.Fraction.{whole}
use Rattle.cylinder.specs.Exact.{AtMost, AtLeast, Encloses, Close}
use Rattle.cylinder.specs.Sum.{Over}
use Rattle.pressure.specs.declared.Order.{Order}
use Rattle.pressure.specs.GainTest.{test_ratio, Doubt}
use Rattle.pressure.specs.GainSum.{OverGain, LineOver, BoundsUnder}
use Rattle.wind.specs.Wind.{wind_stress}
use Rattle.answer.specs.Answers.{Answer}
use Rattle.answer.specs.declared.Verdict.{Verdict}
use Rattle.answer.specs.declared.Verdict.TheVariants.{Holds, Fails, Open}
use Rattle.answer.specs.declared.Judgement.{Judgement}
use Rattle.answer.specs.Right.{RightBy, AsCase}
use Rattle.record.specs.declared.Ring.{Ring}
use Rattle.record.specs.declared.Ring.TheVariants.{Stress, Wind}
use Rattle.record.specs.declared.Group.{Group}
use Rattle.record.specs.declared.Record.{Record}
use Rattle.record.specs.Limits.{pressure_of, checks, cylinder_of}

-- the ring stress on a cylinder in kN/m²: the plain one, or the whole number that wind is turned into
abbrev pub ring_stress : Cylinder → Ring → ℕ
ring_stress s (Stress σφ) = σφ
ring_stress s (Wind w v) = wind_stress s w v

-- the record with that stress as a plain one
abbrev pub as_stress : Record → Record
as_stress c = record { wall = c.wall; group = record { axial = c.group.axial; ring = Stress (ring_stress (cylinder_of c.wall) c.group.ring); shear = c.group.shear }; inner = c.inner }

-- the exact sum of a group on a cylinder with a pressure of p inside is over x/y, and that of a record; the test of the gain reads κ by the given order
abbrev pub GroupOver : Order → Cylinder → ℕ → Group → ℕ → ℕ → Type 0
GroupOver o s p g = LineOver s p (test_ratio o s) (whole g.axial) (whole (ring_stress s g.ring)) (whole g.shear)

abbrev pub RecordOver : Order → Record → ℕ → ℕ → Type 0
RecordOver o c = GroupOver o (cylinder_of c.wall) (pressure_of c.inner) c.group

-- L and U enclose the exact sum, and are close
pub record BoundsOf (Exceeds : ℕ → ℕ → Type 0) (j : Judgement) : Type 0 where
  pub encloses : Encloses Exceeds j.low j.high
  pub close : Close j.low j.high

-- the same of a group, where they need not be close if the test of the gain is in doubt, and what they say there; and of a record
abbrev pub GroupBounds : Order → Cylinder → ℕ → Group → Judgement → Type 0
GroupBounds o s p g j = BoundsUnder s p (test_ratio o s) (whole g.axial) (whole (ring_stress s g.ring)) (whole g.shear) j.low j.high

abbrev pub Bounds : Order → Record → Judgement → Type 0
Bounds o c = GroupBounds o (cylinder_of c.wall) (pressure_of c.inner) c.group

-- refused by the first check broken, or judged, with L and U that are right, the verdict of L and U, and load case 1
abbrev pub Right : Order → Record → Answer → Type 0
Right o c = RightBy (checks c) (AsCase 1 (Bounds o c))

-- what a verdict says of an exact sum: holds, that it is at most 1; fails, that it is over 1; open, that it lies from 0.99 to 1.01
abbrev pub Means : (ℕ → ℕ → Type 0) → Verdict → Type 0
Means Exceeds Holds = AtMost Exceeds 1 1
Means Exceeds Fails = Exceeds 1 1
Means Exceeds Open = AtLeast Exceeds 99 100 × AtMost Exceeds 101 100

-- the test of the gain is in doubt, the sum with the gain is at most 1.01 and that without it at least 0.99
abbrev pub InDoubt : Order → Record → Type 0
InDoubt o c =
    let s = cylinder_of c.wall in
    let p = pressure_of c.inner in
    let φ = whole (ring_stress s c.group.ring) in
    Doubt s p (test_ratio o s)
    × (AtMost (OverGain s p (whole c.group.axial) φ (whole c.group.shear)) 101 100 × AtLeast (Over s (whole c.group.axial) φ (whole c.group.shear)) 99 100)

-- what a verdict says of a record: open is said in doubt too
abbrev pub MeansFor : Order → Record → Verdict → Type 0
MeansFor o c Holds = Means (RecordOver o c) Holds
MeansFor o c Fails = Means (RecordOver o c) Fails
MeansFor o c Open = Means (RecordOver o c) Open ⊎ InDoubt o c

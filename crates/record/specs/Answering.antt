-- How the program answers a record. Nobody has to believe this: `record_right` (proofs/Right.antt) says that the answer is Right, `judged_ring`
-- (proofs/Wind.antt) what `ring_stress_of` is, and `record_gain` (proofs/Pressure.antt) what `gain_of_record` means.
use Rattle.std.specs.Prelude.{ℕ, ◌<◌, Bool, true, ltb, Ok, Err}
use Rattle.cylinder.specs.declared.Cylinder.{Cylinder}
use Rattle.cylinder.specs.declared.ByStress.{ByStress}
use Rattle.cylinder.specs.Fraction.{whole}
use Rattle.cylinder.specs.Search.{Pair}
use Rattle.pressure.specs.declared.Order.{Order}
use Rattle.pressure.specs.WholeGain.{tested_at, line_bounds}
use Rattle.line_bounds.specs.declared.Gain.{Gain}
use Rattle.line_bounds.specs.declared.Gain.TheVariants.{Idle}
use Rattle.line_bounds.specs.declared.Worked.{Worked}
use Rattle.line_bounds.specs.Places.{gain_of, WorkedFor}
use Rattle.answer.specs.Answers.{Answer}
use Rattle.answer.specs.declared.Judgement.{Judgement}
use Rattle.answer.specs.Answering.{first_or, judgement_of}
use Rattle.record.specs.declared.Ring.{Ring}
use Rattle.record.specs.declared.Ring.TheVariants.{Stress, Wind}
use Rattle.record.specs.declared.Group.{Group}
use Rattle.record.specs.declared.Record.{Record}
use Rattle.record.specs.Limits.{pressure_of, checks, cylinder_of}
use Rattle.record.specs.Right.{ring_stress}

-- L and U of a group on a cylinder with a pressure of p inside, by the rule of pressure's WholeGain, and those of a record
abbrev pub group_bounds : Order → Cylinder → ℕ → Group → Pair
group_bounds o s p g = line_bounds s p (tested_at o s) (whole g.axial) (whole (ring_stress s g.ring)) (whole g.shear)

unfoldable pub bounds_of : Order → Record → Pair
bounds_of o c = group_bounds o (cylinder_of c.wall) (pressure_of c.inner) c.group

abbrev pub judgement_of_record : Order → Record → Judgement
judgement_of_record o c = judgement_of (bounds_of o c).low (bounds_of o c).high

-- a refusal where a check is broken, else the judgement by L and U
unfoldable pub record_answer : Order → Record → Answer
unfolding bounds_of
record_answer o c = first_or Err (Ok (judgement_of_record o c)) (checks c)

-- the ring stress that a record is judged with, 0 where a check is broken
unfoldable pub ring_stress_of : Record → ℕ
ring_stress_of c = first_or (λ n. 0) (ring_stress (cylinder_of c.wall) c.group.ring) (checks c)

-- what the pressure does to a record, nothing where a check is broken
unfoldable pub gain_of_record : Order → Record → Gain
gain_of_record o c = first_or (λ n. Idle) (gain_of o (cylinder_of c.wall) (pressure_of c.inner)) (checks c)

-- there is a ring stress, or wind, which may make one
abbrev pub has_ring : Ring → Bool
has_ring (Stress σφ) = ltb 0 σφ
has_ring (Wind w v) = true

-- there is a ring stress, or wind that makes one: a gust of 0 makes none
abbrev pub has_load : Ring → Bool
has_load (Stress σφ) = ltb 0 σφ
has_load (Wind w v) = ltb 0 w

-- the places of S that a group may need: that of ring stress for any wind
abbrev pub wanted_of : Group → ByStress Bool
wanted_of g = record { axial = ltb 0 g.axial; ring = has_ring g.ring; shear = ltb 0 g.shear }

-- those that it needs
abbrev pub needed_of : Group → ByStress Bool
needed_of g = record { axial = ltb 0 g.axial; ring = has_load g.ring; shear = ltb 0 g.shear }

-- what depends on a record's wall alone has been worked, as far as its stresses need it
abbrev pub WorkedOn : Order → Record → Worked → Type 0
WorkedOn o c =
    let s = cylinder_of c.wall in
    WorkedFor o s (pressure_of c.inner) (0 < c.group.axial) (0 < ring_stress s c.group.ring) (0 < c.group.shear)

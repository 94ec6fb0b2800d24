-- What is laid down of a record if SCOPE 20 is left out, so that it has no shortfall: all checks but 11, and the nominal wall in check 8 and in every formula.
-- The laws of proofs/Shortfall.antt compare with it.
use Rattle.std.specs.Prelude.{◌*◌, Bool, List, [], ◌∷◌, Ok, Err}
use Rattle.pressure.specs.declared.Order.{Order}
use Rattle.cylinder.specs.declared.Cylinder.{Cylinder}
use Rattle.cylinder.specs.Search.{Pair}
use Rattle.answer.specs.declared.Refusal.{Refusal}
use Rattle.answer.specs.Answers.{Answer}
use Rattle.answer.specs.Checks.{Check, check}
use Rattle.answer.specs.Right.{RightBy, AsCase}
use Rattle.answer.specs.Answering.{first_or, judgement_of}
use Rattle.record.specs.declared.Wall.{Wall}
use Rattle.record.specs.declared.Record.{Record}
use Rattle.record.specs.Limits.{from_to, in_range, edges_known, length_ratio, tolerated, wind_allowed, pressure_of, pressure_allowed, cylinder_by}
use Rattle.record.specs.Right.{GroupBounds}
use Rattle.record.specs.Answering.{group_bounds}

-- check 8: 20 t ≤ 100 r ≤ 2,500 t
abbrev pub nominal_ratio : Wall → Bool
nominal_ratio w = from_to (20 * w.thickness) (2500 * w.thickness) (100 * w.radius)

-- those of Limits but for 11, and with 8 by the nominal wall, written out to be read beside docs/SCOPE.md
abbrev pub nominal_checks : Record → List Check
nominal_checks c =
    check Refusal.Range (in_range c)
    ∷ check Refusal.Edges (edges_known c.wall)
    ∷ check Refusal.WallRatio (nominal_ratio c.wall)
    ∷ check Refusal.LengthRatio (length_ratio c.wall)
    ∷ check Refusal.Imperfection (tolerated c.wall)
    ∷ check Refusal.Wind (wind_allowed c.group.ring)
    ∷ check Refusal.Pressure (pressure_allowed c.inner)
    ∷ []

-- the wall is t, in 200ths of a mm
abbrev pub nominal_cylinder : Wall → Cylinder
nominal_cylinder w = cylinder_by (2 * w.thickness) w

abbrev pub NominalRight : Order → Record → Answer → Type 0
NominalRight o c = RightBy (nominal_checks c) (AsCase 1 (GroupBounds o (nominal_cylinder c.wall) (pressure_of c.inner) c.group))

-- how the program would answer then, to be compared with `record_answer`; what is right does not need it
unfoldable pub nominal_bounds : Order → Record → Pair
nominal_bounds o c = group_bounds o (nominal_cylinder c.wall) (pressure_of c.inner) c.group

unfoldable pub nominal_answer : Order → Record → Answer
unfolding nominal_bounds
nominal_answer o c = first_or Err (Ok (judgement_of (nominal_bounds o c).low (nominal_bounds o c).high)) (nominal_checks c)

-- What is laid down of a record if SCOPE 25 is left out, so that it has no internal pressure: all checks but 16, and the sum without a gain.
-- The laws of proofs/Pressure.antt compare with it.
use Rattle.std.specs.Prelude.{ℕ, List, [], ◌∷◌, Ok, Err}
use Rattle.cylinder.specs.Fraction.{whole}
use Rattle.cylinder.specs.Sum.{Over}
use Rattle.cylinder.specs.Search.{Pair, sum_bounds}
use Rattle.answer.specs.declared.Refusal.{Refusal}
use Rattle.answer.specs.Answers.{Answer}
use Rattle.answer.specs.Checks.{Check, check}
use Rattle.answer.specs.Right.{RightBy, AsCase}
use Rattle.answer.specs.Answering.{first_or, judgement_of}
use Rattle.record.specs.declared.Record.{Record}
use Rattle.record.specs.Limits.{in_range, edges_known, shortfall_allowed, wall_ratio, length_ratio, tolerated, wind_allowed, cylinder_of}
use Rattle.record.specs.Right.{ring_stress, BoundsOf}

-- those of Limits but for 16, written out to be read beside docs/SCOPE.md
abbrev pub unpressed_checks : Record → List Check
unpressed_checks c =
    check Refusal.Range (in_range c)
    ∷ check Refusal.Edges (edges_known c.wall)
    ∷ check Refusal.Shortfall (shortfall_allowed c.wall)
    ∷ check Refusal.WallRatio (wall_ratio c.wall)
    ∷ check Refusal.LengthRatio (length_ratio c.wall)
    ∷ check Refusal.Imperfection (tolerated c.wall)
    ∷ check Refusal.Wind (wind_allowed c.group.ring)
    ∷ []

-- the exact sum is over x/y
abbrev pub UnpressedOver : Record → ℕ → ℕ → Type 0
UnpressedOver c =
    let s = cylinder_of c.wall in
    Over s (whole c.group.axial) (whole (ring_stress s c.group.ring)) (whole c.group.shear)

abbrev pub UnpressedRight : Record → Answer → Type 0
UnpressedRight c = RightBy (unpressed_checks c) (AsCase 1 (BoundsOf (UnpressedOver c)))

-- how the program would answer then, to be compared with `record_answer`; what is right does not need it
unfoldable pub unpressed_bounds : Record → Pair
unpressed_bounds c =
    let s = cylinder_of c.wall in
    sum_bounds 0 s (whole c.group.axial) (whole (ring_stress s c.group.ring)) (whole c.group.shear)

unfoldable pub unpressed_answer : Record → Answer
unfolding unpressed_bounds
unpressed_answer c = first_or Err (Ok (judgement_of (unpressed_bounds c).low (unpressed_bounds c).high)) (unpressed_checks c)

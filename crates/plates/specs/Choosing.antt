-- How the program chooses a plate. Nobody has to believe this: `choosing_right` (proofs/Choices.antt) says what `choosing` gives.
use Rattle.std.specs.Prelude.{ℕ, ◌+◌, ◌*◌, ◌≤◌, min, Bool, true, false, ◌&&◌, List, position, option_map, Option, None, Some, Result, Ok, Err, is_ok}
use Rattle.cylinder.specs.declared.Cylinder.{Cylinder}
use Rattle.cylinder.specs.Fraction.{Fraction}
use Rattle.cylinder.specs.Search.{sum_bounds}
use Rattle.answer.specs.declared.Refusal.{Refusal}
use Rattle.answer.specs.declared.Verdict.{Verdict}
use Rattle.answer.specs.declared.Verdict.TheVariants.{Holds, Fails, Open}
use Rattle.answer.specs.declared.Judgement.{Judgement}
use Rattle.answer.specs.Answering.{first_or, refusal_by, judgement_of}
use Rattle.record.specs.declared.Ring.TheVariants.{Stress}
use Rattle.record.specs.declared.Record.{Record}
use Rattle.record.specs.Limits.{checks, cylinder_of, record_of}
use Rattle.plates.specs.declared.Shell.{Shell}
use Rattle.plates.specs.declared.Forces.{Forces}
use Rattle.plates.specs.Plates.{Chosen, wall_of, forces_up_to, choice_checks, stress_of}

-- the record of a plate without any stress
abbrev pub unloaded : Shell → ℕ → Record
unloaded s t = record_of s.radius t s.length s.modulus s.yield_stress s.edges s.imperfection 0 (Stress 0) 0 0

-- how it is refused, if it breaks a check
unfoldable pub refusal_of : Shell → ℕ → Result (Unit {0}) Refusal
refusal_of s t = refusal_by (checks (unloaded s t))

-- it is refused by 6 or 7, which go before the check of the forces
abbrev pub early : Result (Unit {0}) Refusal → Bool
early (Ok u) = false
early (Err Refusal.Range) = true
early (Err Refusal.Edges) = true
early (Err _) = false

-- a thickness in its range that keeps check 8 with any radius in its range
abbrev pub suited : ℕ → ℕ
suited r = min r 10000

-- a plate without any stress breaks no check of a record, and no stress is over 700,000: 100,000 f/t is not if f is at most 7 t
abbrev pub fits : Shell → Forces → ℕ → Bool
fits s f t = is_ok (refusal_of s t) && forces_up_to (7 * t) f

-- the judgement of a cylinder under three stresses by L and U, and that of a plate
unfoldable pub judgement_by : Cylinder → Fraction → Fraction → Fraction → Judgement
unfolding sum_bounds
judgement_by s x y z = judgement_of (sum_bounds 0 s x y z).low (sum_bounds 0 s x y z).high

abbrev pub plate_judgement : Shell → Forces → ℕ → Judgement
plate_judgement s f t = judgement_by (cylinder_of (wall_of s t)) (stress_of f.axial t) (stress_of f.ring t) (stress_of f.shear t)

abbrev pub is_holds : Verdict → Bool
is_holds Holds = true
is_holds Fails = false
is_holds Open = false

unfoldable pub plate_holds : Shell → Forces → ℕ → Bool
plate_holds s f t = fits s f t && is_holds (plate_judgement s f t).verdict

-- the place of the first that holds
abbrev pub found : Shell → Forces → List ℕ → Option ℕ
found s f ps = option_map (λ i. i + 1) (position (plate_holds s f) ps)

unfoldable pub choosing : Shell → Forces → List ℕ → Chosen
choosing s f ps = first_or Err (Ok (found s f ps)) (choice_checks s f ps)

-- a place is at most 64, so that the number of a choice fits a u64
abbrev pub PlaceBounded : Chosen → Type 0
PlaceBounded (Err r) = Unit {0}
PlaceBounded (Ok None) = Unit {0}
PlaceBounded (Ok (Some k)) = k ≤ 64

-- the same with the refusal given by a number
abbrev pub PlaceBoundedBy : Result (Option ℕ) ℕ → Type 0
PlaceBoundedBy (Err n) = Unit {0}
PlaceBoundedBy (Ok o) = PlaceBounded (Ok o)

-- SCOPE 10.14, 10.15 and 24: choosing a stock plate: the checks in their order, the plates that are passed over, the exact sum of a plate, what is
-- laid down of the choice, and its number.
use Rattle.std.specs.Prelude.{ℕ, ◌+◌, ◌*◌, ◌<◌, ◌≡◌, Bool, true, ◌&&◌, List, [], ◌∷◌, leb, ltb, length, get_or, Option, None, Some, Result, Ok, Err}
use Rattle.cylinder.specs.Fraction.{Fraction, ◌//◌, whole, ◌at_most◌}
use Rattle.cylinder.specs.Sum.{Over}
use Rattle.answer.specs.declared.Refusal.{Refusal}
use Rattle.answer.specs.declared.Verdict.TheVariants.{Holds}
use Rattle.answer.specs.declared.Judgement.{Judgement}
use Rattle.answer.specs.Answers.{refusal_number}
use Rattle.answer.specs.Checks.{Check, check, FirstBroken, AllPassed}
use Rattle.answer.specs.Right.{RightBy}
use Rattle.record.specs.declared.Wall.{Wall}
use Rattle.record.specs.Limits.{from_to, radius_in_range, thickness_in_range, length_in_range, material, edges_known, wall_ratio, length_ratio, tolerated, cylinder_of}
use Rattle.record.specs.Right.{BoundsOf, Means}
use Rattle.plates.specs.declared.Shell.{Shell}
use Rattle.plates.specs.declared.Forces.{Forces}

-- the wall of a plate of thickness t; the shortfall counts as 0
abbrev pub wall_of : Shell → ℕ → Wall
wall_of s t =
    record {
      radius = s.radius;
      thickness = t;
      length = s.length;
      modulus = s.modulus;
      yield_stress = s.yield_stress;
      edges = s.edges;
      imperfection = s.imperfection;
      shortfall = 0;
    }

-- its thickness may be any number: checks 6 of r, l, E and fy, 7, 9 and 10 do not look at it
abbrev pub bare : Shell → Wall
bare s = wall_of s 0

-- ---- check 14: the list is empty, has over 64 plates, or does not rise strictly
abbrev pub rising : List ℕ → Bool
rising [] = true
rising (t ∷ []) = true
rising (t ∷ (u ∷ us)) = ltb t u && rising (u ∷ us)

abbrev pub list_allowed : List ℕ → Bool
list_allowed ps = from_to 1 64 (length ps) && rising ps

-- ---- check 6 without t and the stresses, which a call does not give: r, l, E, fy
abbrev pub shell_in_range : Shell → Bool
shell_in_range s = radius_in_range (bare s) && (length_in_range (bare s) && material (bare s))

-- no force is over `most`
abbrev pub forces_up_to : ℕ → Forces → Bool
forces_up_to most f = leb f.axial most && (leb f.ring most && leb f.shear most)

-- ---- check 15: a force over 100,000 N/mm
abbrev pub forces_allowed : Forces → Bool
forces_allowed f = forces_up_to 100000 f

-- ---- the checks in their order
abbrev pub choice_checks : Shell → Forces → List ℕ → List Check
choice_checks s f ps =
    check Refusal.PlateList (list_allowed ps)
    ∷ check Refusal.Range (shell_in_range s)
    ∷ check Refusal.Edges (edges_known (bare s))
    ∷ check Refusal.Force (forces_allowed f)
    ∷ check Refusal.LengthRatio (length_ratio (bare s))
    ∷ check Refusal.Imperfection (tolerated (bare s))
    ∷ []

-- ---- the stress of a force of f N/mm on a wall of t hundredths of a mm: 1 N/mm on 1/100 mm is 100 N/mm², so 100,000 kN/m²
abbrev pub stress_of : ℕ → ℕ → Fraction
stress_of f t = (100000 * f) // t

-- the exact sum of a plate is over x/y
abbrev pub PlateOver : Shell → Forces → ℕ → ℕ → ℕ → Type 0
PlateOver s f t = Over (cylinder_of (wall_of s t)) (stress_of f.axial t) (stress_of f.ring t) (stress_of f.shear t)

-- ---- a plate is passed over if its t is outside its range, if it breaks check 8, or if a stress is over 700,000 kN/m²; if not, it is a candidate
abbrev pub stresses_in_range : Forces → ℕ → Bool
stresses_in_range f t =
    stress_of f.axial t at_most whole 700000 && (stress_of f.ring t at_most whole 700000 && stress_of f.shear t at_most whole 700000)

abbrev pub is_candidate : Shell → Forces → ℕ → Bool
is_candidate s f t = thickness_in_range (wall_of s t) && (wall_ratio (wall_of s t) && stresses_in_range f t)

-- a judgement of a candidate is right as an answer that no check turns back: L and U enclose the exact sum and are close, the verdict is that of L and U
abbrev pub RightPlate : Shell → Forces → ℕ → Judgement → Type 0
RightPlate s f t j = RightBy [] (BoundsOf (PlateOver s f t)) (Ok j)

-- ---- the choice, by a rule that judges plates: it looks at a shell, its forces and one plate alone

-- a plate is a candidate, and the rule says that it holds
abbrev pub HoldsBy : (Shell → Forces → ℕ → Judgement) → Shell → Forces → ℕ → Type 0
HoldsBy rule s f t = (is_candidate s f t ≡ true) × ((rule s f t).verdict ≡ Holds)

-- a plate of a list, counted from 0
abbrev pub plate_at : List ℕ → ℕ → ℕ
plate_at ps i = get_or ps i 0

-- what is chosen: the place of a plate, counted from 1; none; or a refusal
abbrev pub Chosen : Type 0
Chosen = Result (Option ℕ) Refusal

-- refused by the first check broken; or a plate holds and none before it, and its place, counted from 1, is given; or no plate holds
pub data Chooses (rule : Shell → Forces → ℕ → Judgement) (s : Shell) (f : Forces) (ps : List ℕ) : Chosen → Type 0 where
  refuses : (n : Refusal) → FirstBroken (choice_checks s f ps) n → Chooses rule s f ps (Err n)
  takes : AllPassed (choice_checks s f ps) → (i : ℕ) → i < length ps → HoldsBy rule s f (plate_at ps i) →
      ((j : ℕ) → j < i → ¬ (HoldsBy rule s f (plate_at ps j))) → Chooses rule s f ps (Ok (Some (i + 1)))
  finds_none : AllPassed (choice_checks s f ps) → ((j : ℕ) → j < length ps → ¬ (HoldsBy rule s f (plate_at ps j))) → Chooses rule s f ps (Ok None)

-- what is laid down of a choice; the contracts of `choose` and of the call from C name one rule for all shells and lists
pub record RightChoice (rule : Shell → Forces → ℕ → Judgement) (s : Shell) (f : Forces) (ps : List ℕ) (c : Chosen) : Type 0 where
  pub chooses : Chooses rule s f ps c
  -- the judgement of a candidate is right, and its verdict says so of the exact sum
  pub right : AllPassed (choice_checks s f ps) → (t : ℕ) → is_candidate s f t ≡ true → RightPlate s f t (rule s f t)
  pub verdict_means : AllPassed (choice_checks s f ps) → (t : ℕ) → is_candidate s f t ≡ true → Means (PlateOver s f t) (rule s f t).verdict

-- ---- the number of a choice, for C: a refusal as it is, 15 at most; 100 where no plate holds; 101 to 164 for the places 1 to 64
abbrev pub chosen_number : Chosen → ℕ
chosen_number (Err r) = refusal_number r
chosen_number (Ok None) = 100
chosen_number (Ok (Some k)) = 100 + k

-- the same with the refusal given by a number, whatever it is
abbrev pub chosen_by : Result (Option ℕ) ℕ → ℕ
chosen_by (Err n) = n
chosen_by (Ok None) = 100
chosen_by (Ok (Some k)) = 100 + k

-- n is the number of a choice as it is laid down
pub record NumberOfChoice (rule : Shell → Forces → ℕ → Judgement) (s : Shell) (f : Forces) (ps : List ℕ) (n : ℕ) : Type 0 where
  pub choice : Chosen
  pub is_right : RightChoice rule s f ps choice
  pub is_number : n ≡ chosen_number choice

-- ---- a shell and its forces, in the order of the call from C
abbrev pub shell_of : ℕ → ℕ → ℕ → ℕ → ℕ → ℕ → Shell
shell_of r l E fy edges a = record { radius = r; length = l; modulus = E; yield_stress = fy; edges = edges; imperfection = a }

abbrev pub forces_of : ℕ → ℕ → ℕ → Forces
forces_of nx nφ nxφ = record { axial = nx; ring = nφ; shear = nxφ }

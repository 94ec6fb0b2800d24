-- How the program answers load cases. Nobody has to believe this: `cases_right` (proofs/Right.antt) says that the answer is right.
use Rattle.std.specs.Prelude.{ℕ, suc, ◌≤◌, ◌<◌, ◌/◌, ◌%◌, ◌≡◌, Bool, true, List, [], ◌∷◌, length, ltb, eqb, Option, None, Some, Ok, Err}
use Rattle.pressure.specs.declared.Order.{Order}
use Rattle.cylinder.specs.declared.ByStress.{ByStress}
use Rattle.algebra.specs.Choice.{pick}
use Rattle.answer.specs.Answers.{Answer}
use Rattle.answer.specs.declared.Judgement.{Judgement}
use Rattle.answer.specs.Governing.{governing}
use Rattle.answer.specs.Answering.{first_or, judgement_of, of_case}
use Rattle.record.specs.declared.Ring.{Ring}
use Rattle.record.specs.declared.Group.{Group}
use Rattle.record.specs.Limits.{stresses, wind_allowed}
use Rattle.record.specs.Answering.{has_ring, has_load, judgement_of_record}
use Rattle.cases.specs.declared.Cases.{Cases}
use Rattle.cases.specs.Numbers.{first_from}
use Rattle.cases.specs.Cases.{LoadCases, alone, every, case_checks, At}
pub use Rattle.cases.specs.Places.{no_group}

-- what they stand for
abbrev pub load_cases : Cases → LoadCases
load_cases c = record { wall = c.wall; groups = c.groups; inner = c.inner }

-- there is a load case; more than 8 there cannot be
abbrev pub Counted : Cases → Type 0
Counted c = 1 ≤ length c.groups

-- of check 6 a group says what `six` says, and if that is passed, of check 13 what `thirteen` says
pub record Stands (six thirteen : Bool) (g : Group) : Type 0 where
  pub stresses_are : stresses g ≡ six
  pub wind_is : six ≡ true → wind_allowed g.ring ≡ thirteen

-- a group stands for all
abbrev pub StandsFor : List Group → Group → Type 0
StandsFor gs g = Stands (every stresses gs) (every (λ h. wind_allowed h.ring) gs) g

-- each stress of a load case that is above 0 has its place in w; a ring stress or wind has it where `matters` says so
pub record ServedFor (matters : Ring → Bool) (g : Group) (w : ByStress Bool) : Type 0 where
  pub axial_is : 0 < g.axial → w.axial ≡ true
  pub ring_is : matters g.ring ≡ true → w.ring ≡ true
  pub shear_is : 0 < g.shear → w.shear ≡ true

-- any wind matters
abbrev pub WantedFor : Group → ByStress Bool → Type 0
WantedFor g w = ServedFor has_ring g w

abbrev pub WantedBy : List Group → ByStress Bool → Type 0
WantedBy gs w = (m : ℕ) (g : Group) → At gs m g → WantedFor g w

-- only wind of a gust above 0 matters
abbrev pub NeededFor : Group → ByStress Bool → Type 0
NeededFor g w = ServedFor has_load g w

abbrev pub NeededBy : List Group → ByStress Bool → Type 0
NeededBy gs w = (m : ℕ) (g : Group) → At gs m g → NeededFor g w

-- the judgements of the load cases, numbered from n on
unfoldable pub judgements : Order → LoadCases → ℕ → List Group → List Judgement
judgements o c n [] = []
judgements o c n (g ∷ gs) = of_case n (judgement_of_record o (alone c g)) ∷ judgements o c (suc n) gs

-- the one that governs; a line has at least one, so what is said of none does not matter
abbrev pub governs : List Judgement → Judgement
governs [] = judgement_of 0 0
governs (j ∷ js) = governing j js

unfoldable pub cases_answer : Order → LoadCases → Answer
unfolding judgements
cases_answer o c = first_or Err (Ok (governs (judgements o c 1 c.groups))) (case_checks c)

-- how many load cases a list of so many numbers has; 0 where they are not 1 to 8, or not in fives
abbrev pub count_of : ℕ → ℕ
count_of n = pick (ltb 40 n) 0 (pick (eqb (n % 5) 0) (n / 5) 0)

-- what is read of a list: its load cases, where they are 1 to 8
abbrev pub ListedOf : List ℕ → Option (List Group) → Type 0
ListedOf ns None = count_of (length ns) ≡ 0
ListedOf ns (Some gs) = (1 ≤ count_of (length ns)) × (gs ≡ first_from ns (count_of (length ns)))

-- SCOPE 26.1 to 26.6 and 27.1: many load cases on one shell, their checks, and what is laid down of the answer.
use Rattle.std.specs.Prelude.{ℕ, zero, suc, ◌-◌, ◌≡◌, Bool, true, ◌&&◌, List, [], ◌∷◌, Option}
use Rattle.pressure.specs.declared.Order.{Order}
use Rattle.cylinder.specs.Exact.{AtMost}
use Rattle.answer.specs.declared.Refusal.{Refusal}
use Rattle.answer.specs.declared.Verdict.TheVariants.{Holds}
use Rattle.answer.specs.declared.Judgement.{Judgement}
use Rattle.answer.specs.Answers.{verdict_of, Answer}
use Rattle.answer.specs.Governing.{governing}
use Rattle.answer.specs.Checks.{Check, check}
use Rattle.answer.specs.Right.{RightBy, AsCase}
use Rattle.record.specs.declared.Wall.{Wall}
use Rattle.record.specs.declared.Group.{Group}
use Rattle.record.specs.declared.Record.{Record}
use Rattle.record.specs.Limits.{dimensions, material, stresses, edges_known, shortfall_allowed, wall_ratio, length_ratio, tolerated, wind_allowed, pressure_allowed}
use Rattle.record.specs.Right.{RecordOver, Bounds, MeansFor}

-- a wall, the load cases on it in their order, and the pressure inside, which is that of all
pub record LoadCases : Type 0 where
  pub wall : Wall
  pub groups : List Group
  pub inner : Option ℕ

-- one of them on a line of its own
abbrev pub alone : LoadCases → Group → Record
alone c g = record { wall = c.wall; group = g; inner = c.inner }

-- a record is one load case
abbrev pub one_case : Record → LoadCases
one_case c = record { wall = c.wall; groups = c.group ∷ []; inner = c.inner }

abbrev pub every : (Group → Bool) → List Group → Bool
every test [] = true
every test (g ∷ gs) = test g && every test gs

-- the checks in their order: each is made on all load cases before the next is made on any
abbrev pub case_checks : LoadCases → List Check
case_checks c =
    check Refusal.Range (dimensions c.wall && (material c.wall && every stresses c.groups))
    ∷ check Refusal.Edges (edges_known c.wall)
    ∷ check Refusal.Shortfall (shortfall_allowed c.wall)
    ∷ check Refusal.WallRatio (wall_ratio c.wall)
    ∷ check Refusal.LengthRatio (length_ratio c.wall)
    ∷ check Refusal.Imperfection (tolerated c.wall)
    ∷ check Refusal.Wind (every (λ g. wind_allowed g.ring) c.groups)
    ∷ check Refusal.Pressure (pressure_allowed c.inner)
    ∷ []

-- a judgement for each load case, numbered from n on: L and U are right for it on a line of its own, and the verdict is that of L and U
abbrev pub EachJudged : Order → LoadCases → ℕ → List Group → List Judgement → Type 0
EachJudged o c n [] [] = Unit {0}
EachJudged o c n [] (j ∷ js) = ⊥
EachJudged o c n (g ∷ gs) [] = ⊥
EachJudged o c n (g ∷ gs) (j ∷ js) = (AsCase n (Bounds o (alone c g)) j × (j.verdict ≡ verdict_of j.low j.high)) × EachJudged o c (suc n) gs js

-- the judgement of a line: the one that governs those of its load cases
pub record Governs (o : Order) (c : LoadCases) (j : Judgement) : Type 0 where
  pub first : Judgement
  pub others : List Judgement
  pub each : EachJudged o c 1 c.groups (first ∷ others)
  pub is : j ≡ governing first others

-- refused by the first check broken, or judged by the load case that governs
abbrev pub RightCases : Order → LoadCases → Answer → Type 0
RightCases o c = RightBy (case_checks c) (Governs o c)

-- g stands at place n of a list, counted from 0
abbrev pub At : List Group → ℕ → Group → Type 0
At [] n g = ⊥
At (h ∷ hs) zero g = g ≡ h
At (h ∷ hs) (suc n) g = At hs n g

-- what the judgement of a line says: its verdict, of the exact sum of the case that governs; and holds, that the sum of every case is at most 1
pub record MeansCases (o : Order) (c : LoadCases) (j : Judgement) : Type 0 where
  pub governs : Group
  pub is_case : At c.groups (j.case - 1) governs
  pub means : MeansFor o (alone c governs) j.verdict
  pub all_hold : j.verdict ≡ Holds → (n : ℕ) (g : Group) → At c.groups n g → AtMost (RecordOver o (alone c g)) 1 1

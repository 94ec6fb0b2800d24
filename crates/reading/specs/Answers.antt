-- SCOPE 9.5, 9.12, 9.13, 10.4, 10.5, 25.6, 26.2 to 26.6, 27.1 and 27.2: what is laid down of the answer to a line.
use Rattle.std.specs.Prelude.{ℕ, suc, ◌≤◌, ◌<◌, ◌≡◌, ◌⊎◌, List, [], ◌∷◌, length, Ok, Err}
use Rattle.pressure.specs.declared.Order.{Order}
use Rattle.pressure.specs.declared.Order.TheVariants.{ToleranceFirst, PressureFirst}
use Rattle.pressure.specs.GainTest.{test_ratio, Loses, Doubt}
use Rattle.answer.specs.declared.Refusal.{Refusal}
use Rattle.answer.specs.Answers.{Answer}
use Rattle.answer.specs.declared.Judgement.{Judgement}
use Rattle.answer.specs.Governing.{governing}
use Rattle.record.specs.declared.Group.{Group}
use Rattle.record.specs.Limits.{pressure_of, cylinder_of}
use Rattle.cases.specs.Cases.{LoadCases, alone, one_case, RightCases, MeansCases}
use Rattle.reading.specs.Text.{text, Spells}

-- a line has at most so many bytes
abbrev pub line_most : ℕ
line_most = 512

-- the line l has the answer a: 4 where it is longer; else 5 where it spells no load cases; else an answer that is right for those that it spells
pub data RightLine (o : Order) (l : List ℕ) : Answer → Type 0 where
  too_long : line_most < length l → RightLine o l (Err Refusal.LineBytes)
  not_form : length l ≤ line_most → ((c : LoadCases) → Spells l c → ⊥) → RightLine o l (Err Refusal.Form)
  of_cases : (c : LoadCases) (a : Answer) → length l ≤ line_most → Spells l c → RightCases o c a → RightLine o l a

-- ---- SCOPE 26.4 and 26.5: each load case is judged as it is on a line of its own

-- the line of one of the load cases
abbrev pub own_line : LoadCases → Group → List ℕ
own_line c g = text (one_case (alone c g))

-- a judgement for each load case, numbered from n on: but for that number, the one that a rule gives the line of its own
abbrev pub OwnJudged : (List ℕ → Answer) → LoadCases → ℕ → List Group → List Judgement → Type 0
OwnJudged rule c n [] [] = Unit {0}
OwnJudged rule c n [] (j ∷ js) = ⊥
OwnJudged rule c n (g ∷ gs) [] = ⊥
OwnJudged rule c n (g ∷ gs) (j ∷ js) =
    (rule (own_line c g) ≡ Ok (record { verdict = j.verdict; low = j.low; high = j.high; case = 1 })) × ((j.case ≡ n) × OwnJudged rule c (suc n) gs js)

-- the judgement j of the line l is the one that governs these
pub record ByOwnLines (rule : List ℕ → Answer) (l : List ℕ) (j : Judgement) : Type 0 where
  pub cases : LoadCases
  pub spelt : Spells l cases
  pub head : Judgement
  pub others : List Judgement
  pub own : OwnJudged rule cases 1 cases.groups (head ∷ others)
  pub is : j ≡ governing head others

-- what a judgement of the line l says of the load cases that it spells
abbrev pub MeansLine : Order → List ℕ → Judgement → Type 0
MeansLine o l j = (c : LoadCases) × (Spells l c × MeansCases o c j)

-- SCOPE 27.2: the line l spells load cases that lose the gain by pressure first, or whose test is in doubt by either reading
pub record Changed (l : List ℕ) : Type 0 where
  pub cases : LoadCases
  pub spelt : Spells l cases
  pub why :
      let s = cylinder_of cases.wall in
      let p = pressure_of cases.inner in
      Loses s p ⊎ (Doubt s p (test_ratio ToleranceFirst s) ⊎ Doubt s p (test_ratio PressureFirst s))

-- How the program answers: its way through checks, the judgement by L and U, and what it asks of an answer that it writes as one number.
-- Nobody has to believe this: `first_or_lem` (proofs/Checks.antt) says what `first_or` gives, and `answer_by_right` and `right_bounded`
-- (proofs/Right.antt) say that the answer by it is right, and that a right answer fits its number.
use Rattle.std.specs.Prelude.{ℕ, ◌≤◌, List, [], ◌∷◌, Result, Ok, Err}
use Rattle.algebra.specs.Choice.{pick}
use Rattle.answer.specs.declared.Judgement.{Judgement}
use Rattle.answer.specs.declared.Refusal.{Refusal}
use Rattle.answer.specs.Answers.{Answer, verdict_of}
use Rattle.answer.specs.Checks.{Check}

-- what f gives of the refusal of the first check that is broken, else a
abbrev pub first_or : {A : Type 0} → (Refusal → A) → A → List Check → A
first_or f a [] = a
first_or f a (k ∷ ks) = pick k.passed (first_or f a ks) (f k.refusal)

-- refused by the first check that is broken, if any is
abbrev pub refusal_by : List Check → Result (Unit {0}) Refusal
refusal_by ks = first_or Err (Ok tt) ks

-- the judgement of a load case
abbrev pub of_case : ℕ → Judgement → Judgement
of_case n j = record { verdict = j.verdict; low = j.low; high = j.high; case = n }

-- the judgement by L and U, of the first load case
abbrev pub judgement_of : ℕ → ℕ → Judgement
judgement_of L U = record { verdict = verdict_of L U; low = L; high = U; case = 1 }

-- L and U are at most 20,000, and the case is from 1 to 8, so that the number of the answer fits a u64 and tells all four
abbrev pub Bounded : Answer → Type 0
Bounded (Err r) = Unit {0}
Bounded (Ok j) = (j.low ≤ 20000) × (j.high ≤ 20000) × (1 ≤ j.case) × (j.case ≤ 8)

-- the same with the refusal given by a number
abbrev pub BoundedBy : Result Judgement ℕ → Type 0
BoundedBy (Err n) = Unit {0}
BoundedBy (Ok j) = Bounded (Ok j)

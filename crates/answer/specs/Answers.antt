-- SCOPE 6.5, 10, 13.2 and 26.9: an answer, the verdict by L and U, the numbers of refusals, and the number of an answer that a call from C returns.
use Rattle.std.specs.Prelude.{ℕ, ◌+◌, ◌-◌, ◌*◌, leb, ltb, Result, Ok, Err}
use Rattle.algebra.specs.Choice.{pick}
use Rattle.answer.specs.declared.Verdict.{Verdict}
use Rattle.answer.specs.declared.Verdict.TheVariants.{Holds, Fails, Open}
use Rattle.answer.specs.declared.Judgement.{Judgement}
use Rattle.answer.specs.declared.Refusal.{Refusal}
use Rattle.answer.specs.declared.Refusal.TheVariants.{SheetBytes, SheetLines, ListingRoom, LineBytes, Form, Range, Edges, WallRatio, LengthRatio, Imperfection, Shortfall, LineRoom, Wind, PlateList, Force, Pressure}

-- the judgement of a record, or why it is refused
abbrev pub Answer : Type 0
Answer = Result Judgement Refusal

-- holds if U ≤ 10,000, fails if L > 10,000, open otherwise
abbrev pub verdict_of : ℕ → ℕ → Verdict
verdict_of L U = pick (leb U 10000) Holds (pick (ltb 10000 L) Fails Open)

-- 1 for holds, 2 for fails, 3 for open
abbrev pub verdict_number : Verdict → ℕ
verdict_number Holds = 1
verdict_number Fails = 2
verdict_number Open = 3

-- the table of refusals
abbrev pub refusal_number : Refusal → ℕ
refusal_number SheetBytes = 1
refusal_number SheetLines = 2
refusal_number ListingRoom = 3
refusal_number LineBytes = 4
refusal_number Form = 5
refusal_number Range = 6
refusal_number Edges = 7
refusal_number WallRatio = 8
refusal_number LengthRatio = 9
refusal_number Imperfection = 10
refusal_number Shortfall = 11
refusal_number LineRoom = 12
refusal_number Wind = 13
refusal_number PlateList = 14
refusal_number Force = 15
refusal_number Pressure = 16

-- 100,000,000,000 × (case − 1) + 10,000,000,000 × verdict + 100,000 × L + U
abbrev pub judgement_number : Judgement → ℕ
judgement_number j = 100000000000 * (j.case - 1) + 10000000000 * verdict_number j.verdict + 100000 * j.low + j.high

-- the refusal number, or that of the judgement
abbrev pub answer_number : Answer → ℕ
answer_number (Ok j) = judgement_number j
answer_number (Err r) = refusal_number r

-- the same with the refusal given by a number, whatever it is
abbrev pub number_by : Result Judgement ℕ → ℕ
number_by (Ok j) = judgement_number j
number_by (Err n) = n

-- an answer with the refusal's number in place of the refusal
abbrev pub in_table : Answer → Result Judgement ℕ
in_table (Ok j) = Ok j
in_table (Err r) = Err (refusal_number r)

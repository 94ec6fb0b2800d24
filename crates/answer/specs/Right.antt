-- What is laid down of an answer (SCOPE 6.5, 9.5 and 13.2), for checks in their order and for a claim about judgements: it is refused by the
-- first check that is broken; or no check is broken, the claim holds of the judgement, and its verdict is that of its L and U.
use Rattle.std.specs.Prelude.{ℕ, ◌≡◌, List, Ok, Err}
use Rattle.answer.specs.declared.Judgement.{Judgement}
use Rattle.answer.specs.declared.Refusal.{Refusal}
use Rattle.answer.specs.Answers.{Answer, verdict_of, answer_number}
use Rattle.answer.specs.Checks.{Check, FirstBroken, AllPassed}

pub data RightBy (list : List Check) (Claim : Judgement → Type 0) : Answer → Type 0 where
  refused : (r : Refusal) → FirstBroken list r → RightBy list Claim (Err r)
  judged : (j : Judgement) → AllPassed list → Claim j → j.verdict ≡ verdict_of j.low j.high → RightBy list Claim (Ok j)

-- a claim about a judgement, and that it is that of the load case n
abbrev pub AsCase : ℕ → (Judgement → Type 0) → Judgement → Type 0
AsCase n Claim j = Claim j × (j.case ≡ n)

-- n is the number of an answer that is correct
pub record NumberOfRight (Correct : Answer → Type 0) (n : ℕ) : Type 0 where
  pub answer : Answer
  pub is_right : Correct answer
  pub is_number : n ≡ answer_number answer

-- How the program counts, one answer after the other. Nobody has to believe this: `here_counts` (proofs/Turns.antt) has that it ends in `counts`.
use Rattle.std.specs.Prelude.{ℕ, ◌+◌, Result, Ok, Err}
use Rattle.algebra.specs.Choice.{pick}
use Rattle.answer.specs.Answers.{Answer}
use Rattle.answer.specs.declared.Judgement.{Judgement}
use Rattle.answer.specs.declared.Verdict.TheVariants.{Holds, Fails, Open}
use Rattle.listing.specs.declared.Counts.{Counts}
use Rattle.listing.specs.Listing.{says, is_refused}

-- counts with one more answer
abbrev pub with_answer : Counts → Answer → Counts
with_answer c a =
    record {
      lines = c.lines + 1;
      holds = c.holds + pick (says Holds a) 1 0;
      fails = c.fails + pick (says Fails a) 1 0;
      opens = c.opens + pick (says Open a) 1 0;
      refused = c.refused + pick (is_refused a) 1 0;
    }

-- the same with the refusal given by a number, whatever it is
abbrev pub with_numbered : Counts → Result Judgement ℕ → Counts
with_numbered c (Ok j) = with_answer c (Ok j)
with_numbered c (Err n) = record { lines = c.lines + 1; holds = c.holds; fails = c.fails; opens = c.opens; refused = c.refused + 1 }

-- SCOPE 8, 9.8 and 9.9: the listing of answers, a line for each and the total line.
use Rattle.std.specs.Prelude.{ℕ, ◌+◌, Bool, true, false, List, [], ◌∷◌, ◌++◌, length, eqb, Result, Ok, Err}
use Rattle.text.specs.Bytes.{ascii, decimal, spaced}
use Rattle.algebra.specs.Choice.{pick}
use Rattle.answer.specs.declared.Verdict.{Verdict}
use Rattle.answer.specs.declared.Verdict.TheVariants.{Holds, Fails, Open}
use Rattle.answer.specs.declared.Judgement.{Judgement}
use Rattle.answer.specs.Answers.{Answer, verdict_number, refusal_number}
use Rattle.listing.specs.declared.Counts.{Counts}

-- ---- a line for each answer

-- the word of a verdict
abbrev pub verdict_word : Verdict → List ℕ
verdict_word Holds = ascii "holds"
verdict_word Fails = ascii "fails"
verdict_word Open = ascii "open"

-- what follows the line's number
abbrev pub said : Answer → List ℕ
said (Ok j) = ascii " " ++ verdict_word j.verdict ++ ascii ")"
said (Err r) = ascii " refused " ++ decimal (refusal_number r) ++ ascii ")"

-- SCOPE 8.1: the line for the answer a to line k
unfoldable pub entry : ℕ → Answer → List ℕ
entry k a = ascii "(" ++ decimal k ++ said a

-- the same with the refusal given by a number, whatever it is
abbrev pub said_by : Result Judgement ℕ → List ℕ
said_by (Ok j) = said (Ok j)
said_by (Err n) = ascii " refused " ++ decimal n ++ ascii ")"

unfoldable pub entry_by : ℕ → Result Judgement ℕ → List ℕ
entry_by k a = ascii "(" ++ decimal k ++ said_by a

-- the lines for answers, counted from k
unfoldable pub entries : ℕ → List Answer → List (List ℕ)
entries k [] = []
entries k (a ∷ answers) = entry k a ∷ entries (k + 1) answers

-- ---- the total line

-- the answer has the verdict v; the answer is a refusal
abbrev pub says : Verdict → Answer → Bool
says v (Ok j) = eqb (verdict_number v) (verdict_number j.verdict)
says v (Err n) = false

abbrev pub is_refused : Answer → Bool
is_refused (Ok j) = false
is_refused (Err n) = true

-- how many answers pass a test
unfoldable pub count : (Answer → Bool) → List Answer → ℕ
count p [] = 0
count p (a ∷ answers) = pick (p a) 1 0 + count p answers

-- SCOPE 9.9: how many answers there are, and how many of each kind
abbrev pub counts : List Answer → Counts
counts answers =
    record {
      lines = length answers;
      holds = count (says Holds) answers;
      fails = count (says Fails) answers;
      opens = count (says Open) answers;
      refused = count is_refused answers;
    }

-- all counts 0
abbrev pub no_counts : Counts
no_counts = record { lines = 0; holds = 0; fails = 0; opens = 0; refused = 0 }

-- SCOPE 8.2: the total line
unfoldable pub total : Counts → List ℕ
total c =
    ascii "(total" ++ spaced c.lines ++ spaced c.holds ++ spaced c.fails ++ spaced c.opens ++ spaced c.refused ++ ascii ")"

-- ---- the listing

-- SCOPE 8.3: a line with its newline
abbrev pub ended : List ℕ → List ℕ
ended line = line ++ ascii "\n"

unfoldable pub joined : List (List ℕ) → List ℕ
joined [] = []
joined (line ∷ lines) = ended line ++ joined lines

-- SCOPE 9.8: a line for each answer in order, and the total line
unfoldable pub listing_of : List Answer → List ℕ
listing_of answers = joined (entries 1 answers) ++ ended (total (counts answers))

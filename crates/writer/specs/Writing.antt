-- SCOPE 10.12, 21, 25.8 and 26.8: the writer of the line of load cases: its checks in their order, what it leaves in the buffer, and the number of its
-- answer.
use Rattle.std.specs.Prelude.{ℕ, ◌≡◌, Bool, List, ◌∷◌, ◌++◌, length, drop, leb, Result, Ok, Err}
use Rattle.answer.specs.declared.Refusal.{Refusal}
use Rattle.answer.specs.Answers.{refusal_number}
use Rattle.answer.specs.Checks.{Check, check, FirstBroken, AllPassed}
use Rattle.record.specs.Limits.{from_to}
use Rattle.cases.specs.Cases.{LoadCases, case_checks}
use Rattle.reading.specs.Text.{text}
use Rattle.listing.specs.Listing.{ended}

-- what a writer answers: so many bytes put, or the refusal
abbrev pub Written : Type 0
Written = Result ℕ Refusal

-- a buffer has at least so many bytes
abbrev pub room_least : ℕ
room_least = 512

-- there are 1 to 8 load cases
abbrev pub count_allowed : LoadCases → Bool
count_allowed c = from_to 1 8 (length c.groups)

-- check 12 of the buffer, then 5 of the count, and then those of the load cases
abbrev pub writer_checks : ℕ → LoadCases → List Check
writer_checks room c = check Refusal.LineRoom (leb room_least room) ∷ check Refusal.Form (count_allowed c) ∷ case_checks c

-- the line of load cases, with its newline
abbrev pub line_of : LoadCases → List ℕ
line_of c = ended (text c)

-- the buffer `out` with bytes at its start, and those past them as they were
abbrev pub starting_with : List ℕ → List ℕ → List ℕ
starting_with bytes out = bytes ++ drop (length bytes) out

-- what is laid down of the answer, and of the buffer at exit: refused by the first check broken, and the buffer as it was; or the line is put
pub data Writes (c : LoadCases) (out out' : List ℕ) : Written → Type 0 where
  refuses : (r : Refusal) → FirstBroken (writer_checks (length out) c) r → out' ≡ out → Writes c out out' (Err r)
  puts : AllPassed (writer_checks (length out) c) → out' ≡ starting_with (line_of c) out → Writes c out out' (Ok (length (line_of c)))

-- the number of an answer: how many bytes are put, or the refusal
abbrev pub written_number : Written → ℕ
written_number (Ok n) = n
written_number (Err r) = refusal_number r

-- the same with the refusal given by a number, whatever it is
abbrev pub written_by : Result ℕ ℕ → ℕ
written_by (Ok n) = n
written_by (Err m) = m

-- an answer and a buffer, with the answer's number
abbrev pub numbered : Written × List ℕ → ℕ × List ℕ
numbered p = (written_number p.0, p.1)

-- n is the number of an answer as it is laid down
pub record NumberOfWriting (c : LoadCases) (out out' : List ℕ) (n : ℕ) : Type 0 where
  pub answer : Written
  pub is_right : Writes c out out' answer
  pub is_number : n ≡ written_number answer

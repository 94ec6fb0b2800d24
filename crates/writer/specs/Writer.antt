-- How the program writes load cases. Nobody has to believe this: `writes` (proofs/Laws.antt) says what `writing` gives.
use Rattle.std.specs.Prelude.{ℕ, List, ◌++◌, length, Some, Ok, Err}
use Rattle.text.specs.Bytes.{ascii}
use Rattle.answer.specs.Answering.{first_or}
use Rattle.record.specs.declared.Group.{Group}
use Rattle.cases.specs.Cases.{LoadCases}
use Rattle.reading.specs.Text.{group_text, inner_text}
use Rattle.writer.specs.Writing.{Written, writer_checks, line_of, starting_with}

-- (stress σx RING τ), after a space
abbrev pub spaced_group : Group → List ℕ
spaced_group g = ascii " " ++ group_text g

-- (inner p), after a space
abbrev pub pressure_text : ℕ → List ℕ
pressure_text p = inner_text (Some p)

-- the answer, and the buffer at exit
unfoldable pub writing : LoadCases → List ℕ → Written × List ℕ
writing c out = first_or (λ r. (Err r, out)) (Ok (length (line_of c)), starting_with (line_of c) out) (writer_checks (length out) c)

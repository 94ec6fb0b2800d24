-- What the code has found, as a reader finds it. Nobody has to believe this: proofs/Formats.antt says what the readers find.
use Rattle.std.specs.Prelude.{ℕ, List, Option, Some, None}
use Rattle.std.specs.Borrow.{Bor}
use Rattle.format.specs.Readers.{Found}

-- a value, and what is left of a line after it
abbrev pub seen : {A : Type 0} → Option (A × Bor (List ℕ)) → Found A
seen None = None
seen (Some p) = Some (p.0, p.1.now)

-- fixed bytes, and what is left after them
abbrev pub passed : Option (Bor (List ℕ)) → Found (Unit {0})
passed None = None
passed (Some rest) = Some (tt, rest.now)

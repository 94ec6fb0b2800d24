-- What an iterator over the lines of a sheet has not yet given.
use Rattle.std.specs.Prelude.{ℕ, List}
use Rattle.text.specs.Bytes.{lines}
use Rattle.lines.specs.declared.Lines.{Lines}

abbrev pub lines_left : Lines → List (List ℕ)
lines_left it = lines it.rest.now

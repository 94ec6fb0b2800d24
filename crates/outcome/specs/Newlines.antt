-- How many newlines a sheet has. Nobody has to believe this: `lines_by_newlines` (proofs/Newlines.antt) has the number of lines by it.
use Rattle.std.specs.Prelude.{ℕ, suc, List, [], ◌∷◌}
use Rattle.algebra.specs.Choice.{pick}
use Rattle.text.specs.Bytes.{is_newline}

unfoldable pub newlines : List ℕ → ℕ
newlines [] = 0
newlines (b ∷ s) = pick (is_newline b) (suc (newlines s)) (newlines s)

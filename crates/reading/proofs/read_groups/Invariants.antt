use mathlib.Core.Path.{◌≡◌}
use lib.ListN.{length}
use Rattle.reading.specs.Reading.{group}
use Rattle.reading.proofs.Parts.{ReadSoFar}
use Rattle.reading.proofs.read_groups.Given as goal

abbrev pub invariant-loop : goal.invariant-loop
invariant-loop l = (length l.groups ≡ l.counter) × ReadSoFar group 8 l.rest l.groups l.left

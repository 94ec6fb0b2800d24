use lib.ListN.{take}
use Rattle.cases.specs.Answering.{NeededBy}
use Rattle.cases.proofs.Cases.needed.Given as goal

abbrev pub invariant-loop-g : goal.invariant-loop-g
invariant-loop-g l = NeededBy (take l.g-index l.groups) l.all

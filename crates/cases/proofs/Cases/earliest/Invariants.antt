use lib.ListN.{take}
use Rattle.cases.specs.Answering.{StandsFor}
use Rattle.cases.proofs.Cases.earliest.Given as goal

abbrev pub invariant-loop-g : goal.invariant-loop-g
invariant-loop-g l = StandsFor (take l.g-index l.groups) l.found

use mathlib.Core.Path.{◌≡◌}
use Rattle.cases.specs.Numbers.{first_from}
use Rattle.cases.proofs.list_of.Given as goal

abbrev pub invariant-loop-five : goal.invariant-loop-five
invariant-loop-five l = l.groups ≡ first_from l.numbers l.five-index

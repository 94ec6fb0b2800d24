use Rattle.word.proofs.Laws.{Reading}
use Rattle.word.proofs.number_of.Given as goal

abbrev pub invariant-loop-b : goal.invariant-loop-b
invariant-loop-b s = Reading s.word s.value s.b-index

use Rattle.readings.proofs.Laws.{Here}
use Rattle.readings.proofs.put_rows.Given as goal

abbrev pub invariant-loop-line : goal.invariant-loop-line
invariant-loop-line l = Here l.sheet l.initial.page l.page l.line-iterator.a l.line-iterator.b.start

use Rattle.cases.specs.Answering.{load_cases}
use Rattle.cases.proofs.Worst.{Here}
use Rattle.cases.proofs.ValidCases.judgement.Given as goal

abbrev pub invariant-loop-group : goal.invariant-loop-group
invariant-loop-group l = Here l.o (load_cases l.self.given.now) l.w l.worst l.group-iterator.b.start l.group-iterator.a.rest.now

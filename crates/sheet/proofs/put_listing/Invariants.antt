use Rattle.listing.proofs.Turns.{Here}
use Rattle.outcome.specs.Running.{answers}
use Rattle.outcome.proofs.Laws.{left}
use Rattle.sheet.proofs.put_listing.Given as goal

abbrev pub invariant-loop-line : goal.invariant-loop-line
invariant-loop-line l = Here (answers l.sheet) l.initial.page l.page (left l.line-iterator) l.counts

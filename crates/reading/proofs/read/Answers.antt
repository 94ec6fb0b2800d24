use mathlib.Core.Path.{sym, ◌∙◌}
use borrow.Author.Tests.{eqb-false}
use Rattle.std.proofs.Common.{rules}
use Rattle.reading.proofs.Parts.{form_more}
use Rattle.reading.proofs.read.Goals as goal

pub returns-then-not-is_empty-clause-value : goal.returns-then-not-is_empty-clause-value
returns-then-not-is_empty-clause-value c =
    form_more _ _ _ c.in_ok-rest.ensures c.in_ok-wall.ensures c.read_groups-groups.ensures (eqb-false _ 0 (sym c.is_empty.ensures.value ∙ c.if-is_empty.false)) c.read_inner-inner.ensures c.in_ok-rest-2.ensures (search rules)

use mathlib.Core.Path.{ap, ◌∙◌}
use Rattle.listing.specs.Counting.{with_numbered}
use Rattle.listing.proofs.Numbered.{table_is, with_table}
use Rattle.listing.proofs.Counts.with.Goals as goal

pub returns : goal.returns
returns c =
    let a = c.args in
    c.with_numbered.ensures ∙ ap (with_numbered a.self) (table_is a.a c.map_err.result c.map_err.ensures.cases) ∙ with_table a.self a.a

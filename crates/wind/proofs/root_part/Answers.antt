-- `wind::root_part` meets its contract. Assumes nothing.
use mathlib.Core.Path.{ap₂, ◌∙◌}
use Rattle.roots.specs.Largest.{largest}
use Rattle.wind.proofs.Rows.{part_factors}
use Rattle.wind.proofs.Search.{eighths}
use Rattle.wind.proofs.root_part.Goals as goal

pub returns : goal.returns
returns c =
    let s = c.args.s in
    let is = c.root.ensures ∙ ap₂ (largest 4 4294967295) (part_factors s.length s.wall) c.above-h.ensures.0 in
    (is, (eighths _ _ _ is).most)

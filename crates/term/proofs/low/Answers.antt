-- `term::low` meets its contract. Assumes nothing.
use mathlib.Core.Path.{◌∙◌}
use Rattle.millionths.specs.Reached.{reached_by}
use Rattle.term.proofs.Millionths.{reached_is}
use Rattle.term.proofs.low.Goals as goal

pub returns : goal.returns
returns c =
    let a = c.args in
    let r = c.resistance-r.ensures in
    c.reached.ensures
    ∙ (λ i. reached_by (c.power_for.ensures i) (r.above i) (r.below i))
    ∙ reached_is a.stress a.at.branches a.fy a.load.num a.load.den a.at.excess a.at.point.k a.at.point.q

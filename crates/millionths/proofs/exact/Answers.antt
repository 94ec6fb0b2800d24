-- `millionths::exact` meets its contract. Assumes nothing.
use mathlib.Core.Path.{ap₂, ◌∙◌}
use Rattle.std.proofs.Common.{rules}
use Rattle.roots.specs.Largest.{largest}
use Rattle.millionths.proofs.Largest.{twice, thrice}
use Rattle.millionths.proofs.exact.Goals as goal

pub returns-in-FiveQuarters : goal.returns-in-FiveQuarters
returns-in-FiveQuarters c =
    rw c.in-FiveQuarters.is
    (c.root.ensures ∙ ap₂ (largest 4 2000000) (search rules) (twice c.times-in-FiveQuarters.ensures.is c.times.ensures.is c.fifth_power-y5.ensures.is))

pub returns-in-ThreeSquares : goal.returns-in-ThreeSquares
returns-in-ThreeSquares c =
    rw c.in-ThreeSquares.is
    (c.root-in-ThreeSquares.ensures ∙ ap₂ (largest 1 2000000) (search rules) (thrice c.times-in-ThreeSquares.ensures.is c.square-y2.ensures.is))

-- `slenderness_grid::axial_long_highest` meets its contract. Assumes nothing.
use Rattle.std.proofs.Common.{rules}
use Rattle.cylinder.specs.Cut.{root_of}
use Rattle.cylinder.specs.WholeIdeal.{axial_bent, axial_floor}
use Rattle.slenderness_grid.specs.TermsOf.{Bent}
use Rattle.slenderness_grid.proofs.Searches.{by_search, both_highest}
use Rattle.slenderness_grid.proofs.Curved.{bent_lawful, floor_lawful}
use Rattle.slenderness_grid.proofs.axial_long_highest.Goals as goal

pub largest-requires-clause-askable : goal.largest-requires-clause-askable
largest-requires-clause-askable c =
    let scaled : Bent c.args.s.cylinder c.args.g.q c.scaled-u.result = c.scaled-u.ensures _ _ _ c.requires in
    search rules

pub returns : goal.returns
returns c =
    let a = c.args in
    let s = a.s.cylinder in
    let k = c.axial_floor_highest-k in
    both_highest (root_of 2 (axial_bent s)) (root_of 2 (axial_floor s)) a.g.q a.g.cap k.result c.largest.result a.g.small.0 (floor_lawful a.s) k.ensures
    (by_search (root_of 2 (axial_bent s)) a.g.q k.result ((bent_lawful a.s).nought a.g.q) (λ p b h. search rules) c.largest.ensures)

-- `slenderness_grid::shear_short_highest` meets its contract. Assumes nothing.
use Rattle.std.proofs.Common.{rules}
use Rattle.cylinder.specs.WholeIdeal.{shear_short_cut}
use Rattle.slenderness_grid.specs.TermsOf.{Sheared}
use Rattle.slenderness_grid.proofs.Searches.{by_search}
use Rattle.slenderness_grid.proofs.Curved.{shear_lawful}
use Rattle.slenderness_grid.proofs.shear_short_highest.Goals as goal

pub largest-requires-clause-askable : goal.largest-requires-clause-askable
largest-requires-clause-askable c =
    let scaled : Sheared c.args.s.cylinder c.args.g.q c.scaled-u.result = c.scaled-u.ensures _ _ _ c.requires in
    search rules

pub returns : goal.returns
returns c =
    let a = c.args in
    by_search (shear_short_cut a.s.cylinder) a.g.q a.g.cap ((shear_lawful a.s).nought a.g.q) (λ p b h. search rules) c.largest.ensures

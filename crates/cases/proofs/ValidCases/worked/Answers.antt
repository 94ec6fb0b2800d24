-- `cases::ValidCases::worked` meets its contract. Assumes nothing.
use mathlib.Core.Path.{ap, ◌∙◌}
use borrow.Author.Tests.{ltb-true}
use Rattle.record.specs.declared.Record.{Record}
use Rattle.record.specs.Limits.{pressure_of, cylinder_of}
use Rattle.record.proofs.Loads.{worked_on}
use Rattle.cases.specs.Cases.{alone}
use Rattle.cases.specs.Answering.{load_cases}
use Rattle.cases.proofs.ValidCases.worked.Goals as goal

pub returns : goal.returns
returns c m g at =
    let e = c.pressed.ensures in
    let needs = c.needed.ensures m g at in
    worked_on c.args.o (alone (load_cases c.args.self.given.now) g) c.pressed.result _ e.order (e.shell ∙ ap (λ (r : Record). cylinder_of r.wall) c.first.ensures)
    (e.pressure ∙ ap (λ (r : Record). pressure_of r.inner) c.first.ensures) (λ n. needs.axial_is (ltb-true 0 g.axial n)) needs.ring_is
    (λ n. needs.shear_is (ltb-true 0 g.shear n)) c.work.ensures

-- `plates::Choice::judgement` meets its contract. Assumes nothing.
use mathlib.Core.Path.{ap, ◌∙◌}
use Rattle.cylinder.specs.Search.{Pair}
use Rattle.answer.specs.Answering.{judgement_of}
use Rattle.record.specs.declared.Record.{Record}
use Rattle.record.specs.Limits.{cylinder_of}
use Rattle.plates.specs.Choosing.{judgement_by}
use Rattle.plates.proofs.Loads.{bounds_same}
use Rattle.plates.proofs.Choice.judgement.Goals as goal

pub returns : goal.returns
unfolding judgement_by
returns c =
    let f = c.args.self.forces in
    c.by_bounds.ensures
    ∙ ap (λ (b : Pair). judgement_of b.low b.high)
    (c.of_sum-b.ensures
    ∙ bounds_same (record { axial = c.load.result; ring = c.load-2.result; shear = c.load-3.result }) f.axial f.ring f.shear
    (c.cylinder.ensures ∙ ap (λ (r : Record). cylinder_of r.wall) c.unloaded.ensures) c.load.ensures c.load-2.ensures c.load-3.ensures)

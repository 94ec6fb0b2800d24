-- `record::ValidRecord::judgement` meets its contract. Assumes nothing.
use mathlib.Core.Path.{ap, ◌∙◌}
use Rattle.cylinder.specs.Search.{Pair}
use Rattle.answer.specs.Answering.{judgement_of}
use Rattle.record.proofs.Loads.{bounds_are}
use Rattle.record.proofs.ValidRecord.judgement.Goals as goal

pub returns : goal.returns
returns c =
    let e = c.pressed.ensures in
    let r = c.loads.ensures in
    c.by_bounds.ensures
    ∙ ap (λ (b : Pair). judgement_of b.low b.high)
    (c.of_line-b.ensures ∙ bounds_are c.args.o c.args.self.given c.pressed.result c.loads.result e.order e.shell e.pressure r.axial r.ring r.shear)

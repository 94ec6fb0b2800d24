-- `cases::Cases::needed` meets its contract. Assumes nothing.
use mathlib.Core.Bool.{◌||◌}
use Rattle.cases.proofs.Wanting.{needed_step}
use Rattle.cases.proofs.Cases.needed.Goals as goal

pub loop-g-preserved : goal.loop-g-preserved
loop-g-preserved c =
    let all = c.loop-g.all in
    needed_step _ _ all _ c.loop-g-test.true c.loop-g.invariant
    (λ i. let more = c.needed-more.ensures i in record { axial = all.axial || more.axial; ring = all.ring || more.ring; shear = all.shear || more.shear })

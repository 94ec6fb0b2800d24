-- `cases::list_of` meets its contract. Assumes nothing.
use native.Mathlib.Omega.{arith}
use Rattle.cases.proofs.Fives.{read_more}
use Rattle.cases.proofs.list_of.Goals as goal

pub loop-five-preserved : goal.loop-five-preserved
loop-five-preserved c =
    let e = c.as_chunks.ensures in
    read_more _ _ _ _ e.front (omega (arith, e.front_len, c.loop-five-test.true)) _ c.group_of.ensures _ _ c.loop-five.invariant c.push.ensures

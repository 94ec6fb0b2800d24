-- `readings::run` meets its contract. Assumes nothing.
use mathlib.Core.Path.{sym, ◌∙◌}
use Rattle.readings.proofs.Laws.{run_turned, run_short, run_room, run_compared, readings_of}
use Rattle.readings.proofs.run.Goals as goal

pub put_rows-requires : goal.put_rows-requires
put_rows-requires c =
    let a = c.args in
    let is = sym c.in-Ok.is ∙ c.check.ensures in
    (run_short a.sheet.now a.out.now is, run_room a.sheet.now a.out.now is)

pub returns-in-Ok : goal.returns-in-Ok
returns-in-Ok c =
    let e = run_compared _ _ (sym c.in-Ok.is ∙ c.check.ensures) _ _ c.put_rows.ensures.value c.put_rows.ensures.out_after in
    record { readings = readings_of _ _ _ _ e; fact = e }

pub returns-in-Err : goal.returns-in-Err
returns-in-Err c =
    let e = run_turned _ _ _ (sym c.in-Err.is ∙ c.check.ensures) in
    rw c.none.ensures (record { readings = readings_of _ _ _ _ e; fact = e })

-- `sheet::run` meets its contract. Assumes nothing.
use mathlib.Core.Path.{ap, ◌∙◌}
use Rattle.std.specs.Prelude.{Err}
use Rattle.std.proofs.lemmas.Result.{err_from_is_err_and}
use Rattle.outcome.specs.Sheet.{Outcome}
use Rattle.outcome.proofs.Laws.{outcome_turned, outcome_accepted, outcome_fits, outcome_listed}
use Rattle.outcome.proofs.Demand3.{demand_of}
use Rattle.sheet.proofs.run.Goals as goal

pub returns-in_err-check : goal.returns-in_err-check
returns-in_err-check c =
    let a = c.args in
    let p = err_from_is_err_and c.from_residual.result c.from_residual.ensures.1 in
    let e = ap (λ (q : Outcome). (q, a.out.now)) (p.1 ∙ ap Err p.2) ∙ outcome_turned a.sheet.now a.out.now _ c.in_err-check.ensures in
    record { demand3 = demand_of _ _ _ _ e; fact = e }

pub put_listing-requires : goal.put_listing-requires
put_listing-requires c =
    let a = c.args in
    ((outcome_accepted a.sheet.now a.out.now c.in_ok-check.ensures).short, outcome_fits a.sheet.now a.out.now c.in_ok-check.ensures)

pub returns : goal.returns
returns c =
    let e = outcome_listed _ _ c.in_ok-check.ensures _ _ c.put_listing.ensures.value c.put_listing.ensures.out_after in
    record { demand3 = demand_of _ _ _ _ e; fact = e }

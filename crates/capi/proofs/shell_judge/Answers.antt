use Rattle.pressure.specs.declared.Order.TheVariants.{PressureFirst}
use Rattle.record.specs.Limits.{unpressed}
use Rattle.record.proofs.Right.{right_bounded}
use Rattle.capi.proofs.shell_judge.Goals as goal

pub number-requires : goal.number-requires
number-requires c = let given = c.record_from-given.result in right_bounded PressureFirst (unpressed given.wall given.group) _ c.judge.ensures.right

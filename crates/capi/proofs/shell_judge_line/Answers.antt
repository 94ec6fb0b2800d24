use Rattle.reading.proofs.Answers.{line_bounded}
use Rattle.capi.proofs.shell_judge_line.Goals as goal

pub number-requires : goal.number-requires
number-requires c = line_bounded _ _ _ c.answer.ensures.right_line

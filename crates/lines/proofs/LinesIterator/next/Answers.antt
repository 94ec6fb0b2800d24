use Rattle.std.proofs.Common.{rules}
use mathlib.Core.Path.{ap}
use lib.ListN.{length}
use Rattle.text.proofs.Laws.{lines_nil, lines_given}
use Rattle.lines.proofs.LinesIterator.next.Goals as goal

pub returns-then-is_empty-clause-steps : goal.returns-then-is_empty-clause-steps
returns-then-is_empty-clause-steps c = let none = lines_nil c.args.self.now.rest.now (search rules) in (none, none)

pub returns-clause-steps : goal.returns-clause-steps
returns-clause-steps c = lines_given _ _ _ (search rules) c.split_line.ensures.line c.split_line.ensures.rest

pub returns-clause-goes : goal.returns-clause-goes
returns-clause-goes c =
    let fewer = ap length (lines_given _ _ _ (search rules) c.split_line.ensures.line c.split_line.ensures.rest) in
    search rules

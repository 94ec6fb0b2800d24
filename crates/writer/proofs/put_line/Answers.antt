use Rattle.text.proofs.Laws.{puts_then, puts_as}
use Rattle.cases.specs.Answering.{load_cases}
use Rattle.writer.proofs.Puts.{line_joined}
use Rattle.writer.proofs.put_line.Goals as goal

pub returns : goal.returns
returns c =
    let groups = rw c.as_slice.ensures.value at c.put_groups.ensures in
    puts_as (line_joined (load_cases c.args.c.now)) (puts_then (puts_then (puts_then (puts_then c.put.ensures c.put_wall.ensures) groups) c.put_inner.ensures) c.put-2.ensures)

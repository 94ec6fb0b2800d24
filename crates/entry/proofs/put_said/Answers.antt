use Rattle.text.proofs.Laws.{puts_then}
use Rattle.entry.proofs.put_said.Goals as goal
use Rattle.entry.proofs.put_said.Goals.{in-Ok, in-Err}

pub returns : goal.returns
returns c =
    elim c.match-numbered.branch [
      | in-Ok w ↦ rw w.in-Ok.is (puts_then (puts_then w.put.ensures w.put_word.ensures) (rw w.page-is at c.put-2.ensures))
      | in-Err w ↦
          rw w.in-Err.is (puts_then (puts_then w.put-in-Err.ensures w.number.ensures) (rw w.page-is at c.put-2.ensures))
    ]

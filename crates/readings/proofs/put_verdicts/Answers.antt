use Rattle.text.proofs.Laws.{puts_then}
use Rattle.readings.proofs.put_verdicts.Goals as goal

pub returns : goal.returns
returns c =
    let old = puts_then (puts_then (puts_then c.put.ensures c.number.ensures) c.put-2.ensures) c.put_word.ensures in
    let new = puts_then (puts_then old c.put-3.ensures) c.put_word-2.ensures in
    puts_then (puts_then new c.put-4.ensures) c.put-5.ensures

use Rattle.text.proofs.Laws.{puts_then, puts_as}
use Rattle.writer.proofs.Puts.{wall_joined}
use Rattle.writer.proofs.put_wall.Goals as goal

pub returns : goal.returns
returns c =
    puts_as (wall_joined c.args.w)
    (puts_then (puts_then (puts_then (puts_then (puts_then (puts_then (puts_then c.number.ensures c.spaced.ensures) c.spaced-2.ensures) c.spaced-3.ensures) c.spaced-4.ensures) c.spaced-5.ensures) c.spaced-6.ensures) c.spaced-7.ensures)

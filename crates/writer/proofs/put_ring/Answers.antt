use Rattle.text.proofs.Laws.{puts_then, puts_as}
use Rattle.writer.proofs.Puts.{wind_joined}
use Rattle.writer.proofs.put_ring.Goals as goal

pub returns-in-Wind : goal.returns-in-Wind
returns-in-Wind c = rw c.in-Wind.is (puts_as (wind_joined c.in-Wind.gust c.in-Wind.vented) (puts_then (puts_then (puts_then c.put.ensures c.number-in-Wind.ensures) c.spaced.ensures) c.put-in-Wind.ensures))

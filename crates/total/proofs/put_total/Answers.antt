use Rattle.text.proofs.Laws.{puts_then}
use Rattle.listing.specs.Listing.{total}
use Rattle.total.proofs.put_total.Goals as goal

-- by hand, as in entry, readings and writer: with `puts_then` named at the function `returns` stays open
pub returns : goal.returns
unfolding total
returns c =
    let two = puts_then (puts_then c.put.ensures c.spaced.ensures) c.spaced-2.ensures in
    let four = puts_then (puts_then two c.spaced-3.ensures) c.spaced-4.ensures in
    puts_then (puts_then (puts_then four c.spaced-5.ensures) c.put-2.ensures) c.put-3.ensures

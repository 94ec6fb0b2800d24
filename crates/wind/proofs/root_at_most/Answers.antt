-- `wind::root_at_most` meets its contract. Assumes nothing.
use Rattle.wind.proofs.Rows.{within_factors}
use Rattle.wind.proofs.root_at_most.Goals as goal

pub returns : goal.returns
returns c = let below_is = within_factors c.args.s.length c.args.s.wall c.args.d in cc

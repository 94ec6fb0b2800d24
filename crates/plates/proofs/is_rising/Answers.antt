-- `plates::is_rising` meets its contract. Assumes nothing.
use Rattle.std.proofs.Common.{rules}
use Rattle.std.proofs.lemmas.List.Sorted.{answers_always}
use lib.Dec.{ltb}
use Rattle.plates.proofs.Lists.{rising_adjacent}
use Rattle.plates.proofs.is_rising.Goals as goal

pub returns : goal.returns
returns c = rising_adjacent _ _ (c.is_sorted_by.ensures.cases ltb (answers_always _ _ _ (λ f a r f' k. search rules)))

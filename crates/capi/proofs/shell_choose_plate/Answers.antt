use Rattle.plates.proofs.Choices.{place_bounded}
use Rattle.capi.proofs.shell_choose_plate.Goals as goal

pub number-requires : goal.number-requires
number-requires c = place_bounded _ _ _ _ _ c.choose.ensures.right_choice.chooses

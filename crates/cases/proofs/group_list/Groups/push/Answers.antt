-- `cases::group_list::Groups::push` meets its contract. Assumes nothing.
use native.Mathlib.Omega.{arith}
use Rattle.cases.proofs.Places.{held_next}
use Rattle.cases.proofs.group_list.Groups.push.Goals as goal

pub invariant_of-self : goal.invariant_of-self
invariant_of-self c = held_next _ _ c.self.inside.count _ _ c.self.view_is c.requires (omega arith) c.self.invariant

-- `bounds::Placed::within` meets its contract. Assumes nothing.
use Rattle.std.specs.Cmp.{ranked}
use Rattle.bounds.proofs.Places.{at_within, at_over}
use Rattle.bounds.proofs.Placed.within.Goals as goal

pub returns-in-Less : goal.returns-in-Less
returns-in-Less c = let a = c.args in at_within a.self a.a a.b c.requires.2 c.requires.3 (ranked _ _ _ c.in-Less.ensures)

pub returns-in-Greater : goal.returns-in-Greater
returns-in-Greater c = let a = c.args in at_over a.self a.a a.b (ranked _ _ _ c.in-Greater.ensures)

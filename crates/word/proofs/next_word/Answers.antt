use Rattle.std.proofs.Common.{rules}
use mathlib.Core.Path.{sym, ◌∙◌}
use native.Mathlib.Omega.{arith}
use lib.ListN.{length}
use lib.Seq.{take_all}
use Rattle.word.specs.Words.{ends_word}
use Rattle.text.proofs.Laws.{up_to_first, up_to_part}
use Rattle.word.proofs.next_word.Goals as goal

pub returns-in-Some : goal.returns-in-Some
returns-in-Some c = up_to_part ends_word c.args.rest.now _ (up_to_first ends_word c.args.rest.now c.in-Some.end (search rules) (search rules) (search rules))

pub returns-in-None : goal.returns-in-None
returns-in-None c =
    let rest = c.args.rest.now in
    let none = up_to_first ends_word rest (length rest) (omega arith) (search rules) (search rules) in
    sym (take_all (length rest) rest (omega arith)) ∙ up_to_part ends_word rest _ none

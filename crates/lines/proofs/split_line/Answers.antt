use Rattle.std.proofs.Common.{rules}
use mathlib.Core.Path.{sym, ◌∙◌}
use native.Mathlib.Omega.{arith}
use lib.ListN.{length}
use lib.Seq.{take_all}
use Rattle.text.specs.Bytes.{is_newline}
use Rattle.text.proofs.Laws.{up_to_first, up_to_part, after_part, after_none}
use Rattle.lines.proofs.split_line.Goals as goal

pub returns-in-Some : goal.returns-in-Some
returns-in-Some c =
    let sheet = c.args.sheet.now in
    let first = up_to_first is_newline sheet c.in-Some.end (search rules) (search rules) (search rules) in
    record { line = up_to_part is_newline sheet _ first; rest = after_part is_newline sheet _ first }

pub returns-in-None : goal.returns-in-None
returns-in-None c =
    let sheet = c.args.sheet.now in
    let none = up_to_first is_newline sheet (length sheet) (omega arith) (search rules) (search rules) in
    record {
      line = sym (take_all (length sheet) sheet (omega arith)) ∙ up_to_part is_newline sheet _ none;
      rest = after_none is_newline sheet (omega arith);
    }

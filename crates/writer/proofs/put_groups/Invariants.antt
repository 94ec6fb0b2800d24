use Rattle.std.proofs.Common.{◌-◌, length}
use lib.ListN.{take}
use Rattle.text.specs.Pages.{Puts}
use Rattle.reading.specs.Text.{groups_text}
use Rattle.writer.proofs.put_groups.Given as goal

abbrev pub invariant-loop-i : goal.invariant-loop-i
invariant-loop-i l = Puts l.initial.page (groups_text (take l.i l.groups)) l.page

abbrev pub decreases-loop-i : goal.decreases-loop-i
decreases-loop-i l = length l.groups - l.i

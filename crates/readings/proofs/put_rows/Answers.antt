-- `readings::put_rows` meets its contract. Assumes nothing.
use mathlib.Core.Path.{◌≡◌, refl, ◌∙◌}
use mathlib.Core.Logic.{inl, inr}
use mathlib.Core.List.{[]}
use native.Mathlib.Omega.{arith}
use Rattle.std.proofs.Common.{rules}
use Rattle.text.specs.Slices.{put as put_at}
use Rattle.text.proofs.Laws.{lines_le, opened_fits, opened_at, opened_out}
use Rattle.lines.specs.Left.{lines_left}
use Rattle.readings.specs.Running.{differences}
use Rattle.readings.proofs.Laws.{here_first, here_room, here_turn, here_end}
use Rattle.readings.proofs.put_rows.Goals as goal

pub loop-line-init : goal.loop-line-init
loop-line-init c =
    let all = c.into_iter-line-iterator.ensures.into_iter_gives in
    here_first _ _ _ _ (rw (all, c.zip-line-items.ensures.first) c.of.ensures) (rw (all, c.zip-line-items.ensures.second) refl)

pub put_row-requires : goal.put_row-requires
put_row-requires c =
    let (steps, (same, more)) = c.in-Some.ensures.steps in
    here_room _ _ _ _ _ c.loop-line.invariant _ c.next.new.self.a steps _ same _ c.change_on.ensures (opened_fits c.new-page.ensures _ c.requires.1)

pub loop-line-preserved : goal.loop-line-preserved
loop-line-preserved c =
    let (steps, (same, more)) = c.in-Some.ensures.steps in
    here_turn _ _ _ _ _ c.loop-line.invariant _ _ steps _ same _ c.change_on.ensures _ more c.put_row.ensures

-- the numbers of lines do not end before the lines do
pub returns : goal.returns
returns c =
    let here = c.loop-line.invariant in
    let none : lines_left c.loop-line.line-iterator.a ≡ [] =
    elim c.in-None.ensures.steps [ inl w ↦ w.1.0 | inr w ↦ absurd (omega (arith, here.counted, lines_le c.args.sheet.now, c.requires.0, w.1.0)) ]
    in
    let puts = here_end _ _ _ _ _ here none in
    let out : c.loop-line.page.out.now ≡ put_at c.args.out.now 0 (differences c.args.sheet.now) = opened_out c.new-page.ensures _ puts in
    record { value = c.length.ensures ∙ opened_at c.new-page.ensures _ puts; out_after = search rules }

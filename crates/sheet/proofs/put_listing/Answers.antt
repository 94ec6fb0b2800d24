use native.Mathlib.Omega.{arith}
use mathlib.Core.Path.{◌≡◌, ap, ◌∙◌}
use Rattle.std.proofs.Common.{rules}
use mathlib.Core.List.{map}
use lib.ListN.{length-map}
use lib.Seq.{take_all}
use Rattle.text.specs.Bytes.{lines}
use Rattle.text.specs.Slices.{put as put_at}
use Rattle.text.proofs.Laws.{lines_le, opened_fits, opened_at, opened_out}
use Rattle.listing.proofs.Turns.{here_first, here_room, here_turn, here_within, here_counts, here_total, here_listing}
use Rattle.outcome.specs.Sheet.{listing_by}
use Rattle.outcome.specs.Running.{ruled, listing}
use Rattle.outcome.proofs.Laws.{left, left_next}
use Rattle.sheet.proofs.put_listing.Goals as goal

-- which lines the iterator gives is searched for and not named: code that cuts the sheet in another way, and rightly, has the same answer
pub loop-line-init : goal.loop-line-init
loop-line-init c = here_first _ _ _ _ (ap left c.into_iter-line-iterator.ensures.into_iter_gives ∙ ap (map ruled) (search (rules, take_all))) c.none-counts.ensures

pub with-counts-requires : goal.with-counts-requires
with-counts-requires c =
    let sheet = c.args.sheet.now in
    let w = here_within _ _ _ _ _ c.loop-line.invariant in
    omega (arith, lines_le sheet, length-map (lines sheet) ruled, c.requires.0)

pub put_entry-requires : goal.put_entry-requires
unfolding listing_by
put_entry-requires c =
    let told = left_next c.loop-line.line-iterator c.next.new.self _ _ c.in-Some.ensures.steps c.answer-a.ensures.value in
    here_room _ _ _ _ _ _ _ c.loop-line.invariant told _ c.with-counts.ensures (opened_fits c.new-page.ensures _ c.requires.1)

pub loop-line-preserved : goal.loop-line-preserved
loop-line-preserved c =
    let told = left_next c.loop-line.line-iterator c.next.new.self _ _ c.in-Some.ensures.steps c.answer-a.ensures.value in
    here_turn _ _ _ _ _ _ _ c.loop-line.invariant told _ c.with-counts.ensures c.put_entry.ensures

pub put_total-requires : goal.put_total-requires
unfolding listing_by
put_total-requires c = here_total _ _ _ _ _ c.loop-line.invariant (ap (map ruled) c.in-None.ensures.steps.0) (opened_fits c.new-page.ensures _ c.requires.1)

pub returns-clause-value : goal.returns-clause-value
unfolding listing_by
returns-clause-value c =
    let none = ap (map ruled) c.in-None.ensures.steps.0 in
    let counted = here_counts _ _ _ _ _ c.loop-line.invariant none in
    let put = here_listing _ _ _ _ _ c.loop-line.invariant none c.put_total.ensures in
    let length = c.length-length.ensures ∙ opened_at c.new-page.ensures _ put in
    λ i. record { counts = counted i; length = length i }

pub returns-clause-out_after : goal.returns-clause-out_after
unfolding listing_by
returns-clause-out_after c =
    let put = here_listing _ _ _ _ _ c.loop-line.invariant (ap (map ruled) c.in-None.ensures.steps.0) c.put_total.ensures in
    let out : c.put_total.new.page.out.now ≡ put_at c.args.out.now 0 (listing c.args.sheet.now) = opened_out c.new-page.ensures _ put in
    search rules

use mathlib.Core.Path.{refl, ap, ◌∙◌}
use lib.ListN.{length}
use Rattle.text.proofs.Laws.{put_length}
use Rattle.text.proofs.Page.put.Goals as goal

pub returns : goal.returns
returns c =
    let page = c.args.self.now in
    let e = c.put_bytes-self.ensures in
    record { same = refl; at = e.value; size = ap length e.out_after ∙ put_length page.out.now page.at c.args.word.now; out = e.out_after }

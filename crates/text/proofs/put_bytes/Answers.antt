use borrow.Author.Rules.{rules}
use native.Mathlib.Omega.{arith}
use mathlib.Core.Path.{refl, sym, ◌∙◌}
use lib.ListN.{length-set}
use Rattle.text.proofs.Laws.{put_done, put_next}
use Rattle.text.proofs.put_bytes.Goals as goal

pub loop-j-init : goal.loop-j-init
loop-j-init c = record { at = omega arith; within = search rules; size = refl; out = refl }

pub loop-j-preserved : goal.loop-j-preserved
loop-j-preserved c =
    let l = c.loop-j in
    let word = c.args.word.now in
    record {
      at = omega arith;
      within = omega arith;
      size = simp length-set (search rules);
      out = put_next l.out l.o word l.j c.loop-j-test.true ∙ l.invariant.out;
    }

pub returns : goal.returns
returns c =
    let l = c.loop-j in
    record { value = omega arith; out_after = sym (put_done l.out l.o c.args.word.now l.j c.loop-j-test.false) ∙ l.invariant.out }

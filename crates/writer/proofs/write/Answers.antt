use Rattle.std.proofs.Common.{rules, Err}
use Rattle.std.proofs.lemmas.Result.{err_from_is_err_and}
use mathlib.Core.Path.{◌≡◌, sym, ap, ◌∙◌}
use native.Mathlib.Omega.{arith}
use Prim.Native.Nat.{◌≤◌}
use mathlib.Core.Bool.{false}
use lib.ListN.{length}
use lib.Dec.{eqb}
use borrow.Author.Tests.{eqb-true, eqb-false}
use Rattle.text.specs.Slices.{put}
use Rattle.cases.specs.Cases.{LoadCases}
use Rattle.cases.specs.Answering.{load_cases}
use Rattle.writer.specs.Writing.{line_of}
use Rattle.writer.proofs.Laws.{Count, laid, writing_small, writing_uncounted, writing_refused, writing_fits, writing_put}
use Rattle.writer.proofs.write.Goals as goal

-- there is a load case, and no more than the list has room for
counted : (l : LoadCases) → length l.groups ≤ 8 → eqb (length l.groups) 0 ≡ false → Count l
counted l few e = record { some = omega (arith, eqb-false _ 0 e); few = few }

pub returns-then-out-lt-ROOM_LEAST : goal.returns-then-out-lt-ROOM_LEAST
returns-then-out-lt-ROOM_LEAST c =
    let l = load_cases c.args.c.now in
    let e = writing_small l c.args.out.now c.if-out-lt-ROOM_LEAST.true in
    record { writes = laid l c.args.out.now _ _ e; fact = e }

pub returns-then-is_empty : goal.returns-then-is_empty
returns-then-is_empty c =
    let l = load_cases c.args.c.now in
    let e = writing_uncounted l c.args.out.now c.if-out-lt-ROOM_LEAST.false (eqb-true _ 0 (sym c.is_empty.ensures.value ∙ c.if-is_empty.true)) in
    record { writes = laid l c.args.out.now _ _ e; fact = e }

-- What the checks say is searched for, here and below, and not named: code that takes it on in another way, and rightly, has the same answers.

pub returns-in_err-check : goal.returns-in_err-check
returns-in_err-check c =
    let l = load_cases c.args.c.now in
    let out = c.args.out.now in
    let some = counted l (omega arith) (sym c.is_empty.ensures.value ∙ c.if-is_empty.false) in
    let refusal = err_from_is_err_and c.from_residual.result c.from_residual.ensures.1 in
    let e = writing_refused l out c.if-out-lt-ROOM_LEAST.false some _ (ap Err refusal.2 ∙ search rules) in
    rw refusal.1 (record { writes = laid l out _ _ e; fact = e })

pub put_line-requires : goal.put_line-requires
put_line-requires c =
    let l = load_cases c.args.c.now in
    let some = counted l (omega arith) (sym c.is_empty.ensures.value ∙ c.if-is_empty.false) in
    omega (arith, writing_fits l c.args.out.now c.if-out-lt-ROOM_LEAST.false some (search rules), c.new-page.ensures.at, ap length c.new-page.ensures.out)

pub returns : goal.returns
returns c =
    let l = load_cases c.args.c.now in
    let out = c.args.out.now in
    let some = counted l (omega arith) (sym c.is_empty.ensures.value ∙ c.if-is_empty.false) in
    let bytes : c.put_line.new.page.out.now ≡ put out 0 (line_of l) = rw (← c.new-page.ensures.out, ← c.new-page.ensures.at) c.put_line.ensures.out in
    let e = writing_put l out c.if-out-lt-ROOM_LEAST.false some (search rules) _ _ (omega (arith, c.length.ensures, c.put_line.ensures.at, c.new-page.ensures.at)) (search rules) in
    record { writes = laid l out _ _ e; fact = e }

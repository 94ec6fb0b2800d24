-- `cases::ValidCases::judgement` meets its contract. Assumes nothing.
use mathlib.Core.Path.{refl, sym, ap, ◌∙◌, subst}
use mathlib.Core.Logic.{inl, inr}
use native.Mathlib.Omega.{arith}
use lib.ListN.{length, drop, get_or}
use Rattle.std.proofs.lemmas.List.{take_rest}
use Rattle.answer.specs.Answering.{of_case}
use Rattle.record.specs.declared.Record.{Record}
use Rattle.record.specs.Answering.{judgement_of_record, WorkedOn}
use Rattle.answer.specs.Governing.{worse_of}
use Rattle.cases.specs.Answering.{load_cases, no_group}
use Rattle.cases.proofs.Wanting.{there_at}
use Rattle.cases.proofs.Worst.{all_ready, here_first, here_turn, here_ready, here_end}
use Rattle.cases.proofs.ValidCases.judgement.Goals as goal

pub judgement_by-worst-requires : goal.judgement_by-worst-requires
judgement_by-worst-requires c =
    let self = c.args.self.given.now in
    subst (λ (r : Record). WorkedOn c.args.o r c.worked-w.result) (sym c.first.ensures) (c.worked-w.ensures 0 (get_or self.groups 0 no_group) (there_at self.groups 0 c.args.self.counted))

pub loop-group-init : goal.loop-group-init
loop-group-init c =
    let all = c.into_iter-group-iterator.ensures.into_iter_gives in
    here_first c.args.o (load_cases c.args.self.given.now) c.worked-w.result (all_ready c.args.o (load_cases c.args.self.given.now) c.worked-w.result c.args.self.passed c.worked-w.ensures) c.args.self.counted (omega (arith, ap length c.as_slice.ensures.value, c.as_slice.ensures.upper_bound))
    _ (c.judgement_by-worst.ensures ∙ ap (judgement_of_record c.args.o) c.first.ensures)
    _ (rw (all, c.zip-group-items.ensures.second) refl) _ (rw (all, c.zip-group-items.ensures.first, c.iter.ensures.rest) (take_rest c.as_slice.result.now 1 ∙ ap (drop 1) c.as_slice.ensures.value))

pub invariant_of-next : goal.invariant_of-next
invariant_of-next c =
    let (steps, (same, more)) = c.in-Some.ensures.steps in
    record { passed = (here_ready _ _ _ _ _ _ c.loop-group.invariant _ _ steps _ c.alone.ensures).0 }

pub judgement_by-judged-requires : goal.judgement_by-judged-requires
judgement_by-judged-requires c =
    let (steps, (same, more)) = c.in-Some.ensures.steps in
    (here_ready _ _ _ _ _ _ c.loop-group.invariant _ _ steps _ c.alone.ensures).1

pub loop-group-preserved : goal.loop-group-preserved
loop-group-preserved c =
    let (steps, (same, more)) = c.in-Some.ensures.steps in
    here_turn _ _ _ _ _ _ c.loop-group.invariant _ _ steps _ same _ more _
    (c.or_worse-worst.ensures ∙ ap (worse_of c.loop-group.worst) (c.of_case.ensures ∙ ap (of_case c.in-Some.k) (c.judgement_by-judged.ensures ∙ ap (judgement_of_record c.args.o) c.alone.ensures)))

pub returns : goal.returns
returns c =
    elim c.in-None.ensures.steps [ inl w ↦ here_end _ _ _ _ _ _ c.loop-group.invariant w.1.0 | inr w ↦ absurd (omega (arith, c.loop-group.invariant.counted, w.1.0)) ]

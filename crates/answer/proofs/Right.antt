-- Laws of right answers, whatever the checks are and whatever L and U claim. Assumes nothing.
use mathlib.Core.Path.{◌≡◌, ap}
use mathlib.Core.Logic.{◌⊎◌, inl, inr}
use mathlib.Core.List.{List}
use Rattle.std.specs.Prelude.{Ok, Err}
use Rattle.answer.specs.declared.Judgement.{Judgement}
use Rattle.answer.specs.declared.Refusal.{Refusal}
use Rattle.answer.specs.Answers.{Answer, verdict_of}
use Rattle.answer.specs.Checks.{Check, FirstBroken, AllPassed}
use Rattle.answer.specs.Right.{RightBy, refused, judged}
use Rattle.answer.specs.Answering.{first_or, Bounded}
use Rattle.answer.proofs.Checks.{first_or_lem, first_once, broken_passed, refusals, Among, first_among}

module _ (ks : List Check) (Claim : Judgement → Type 0) where
  -- the program's way through the checks gives a right answer, if the judgement is right wherever no check is broken
  pub answer_by_right : (j : Judgement) → j.verdict ≡ verdict_of j.low j.high → (AllPassed ks → Claim j) → RightBy ks Claim (first_or Err (Ok j) ks)
  answer_by_right j v claims = go (first_or_lem Err (Ok j) ks)
    where
      go : ((n : Refusal) × (FirstBroken ks n × (first_or Err (Ok j) ks ≡ Err n))) ⊎ (AllPassed ks × (first_or Err (Ok j) ks ≡ Ok j)) →
          RightBy ks Claim (first_or Err (Ok j) ks)
      go (inl (n, (f, e))) = rw e (refused n f)
      go (inr (all, e)) = rw e (judged j all (claims all) v)

  -- SCOPE 6.6: a refusal is the same in every right answer, and so is the verdict for given L and U
  pub same_refusal : (n : Refusal) (b : Answer) → RightBy ks Claim (Err n) → RightBy ks Claim b → b ≡ Err n
  same_refusal n _ (refused _ f) (refused m g) = ap Err (first_once ks m n g f)
  same_refusal n _ (refused _ f) (judged j all c v) = absurd (broken_passed ks n f all)

  pub same_verdict : (i j : Judgement) → RightBy ks Claim (Ok i) → RightBy ks Claim (Ok j) → i.low ≡ j.low → i.high ≡ j.high → i.verdict ≡ j.verdict
  same_verdict i j (judged _ _ _ v) (judged _ _ _ w) l h = rw (v, w, l, h)

  -- a refusal is that of a check
  pub refused_among : (n : Refusal) → RightBy ks Claim (Err n) → Among n (refusals ks)
  refused_among n (refused _ f) = first_among ks n f

  -- L, U and the case fit the number of an answer, if the claim limits them
  pub right_bounded : ((j : Judgement) → Claim j → Bounded (Ok j)) → (a : Answer) → RightBy ks Claim a → Bounded a
  right_bounded limit _ (refused n f) = tt
  right_bounded limit _ (judged j all c v) = limit j c

-- An answer with the number of its refusal in place of the refusal: its line, and how it is counted.
-- Assumes nothing.
use mathlib.Core.Path.{◌≡◌, refl, sym, ap, ◌∙◌}
use Prim.Native.Nat.{ℕ, ◌+◌}
use native.Mathlib.Nat.{add-zero}
use Rattle.std.proofs.lemmas.Result.{err_from_is_err_and}
use Rattle.std.specs.Prelude.{Result, Ok, Err, IsErrAnd, MatchResult}
use Rattle.answer.specs.declared.Judgement.{Judgement}
use Rattle.answer.specs.Answers.{Answer, refusal_number, in_table}
use Rattle.listing.specs.declared.Counts.{Counts}
use Rattle.listing.specs.Listing.{entry, entry_by}
use Rattle.listing.specs.Counting.{with_answer, with_numbered}

-- what `map_err(u64::from)` gives
pub table_is : (a : Answer) (m : Result Judgement ℕ) → MatchResult a (λ j. m ≡ Ok j) (λ r. IsErrAnd m (λ n. n ≡ refusal_number r)) → m ≡ in_table a
table_is (Ok j) m is = is
table_is (Err r) m is = let (n, e, same) = err_from_is_err_and m is in e ∙ ap Err same

pub entry_table : (k : ℕ) (a : Answer) → entry_by k (in_table a) ≡ entry k a
unfolding entry entry_by
entry_table k (Ok j) = refl
entry_table k (Err r) = refl

pub with_table : (c : Counts) (a : Answer) → with_numbered c (in_table a) ≡ with_answer c a
with_table c (Ok j) = refl
with_table c (Err r) =
    λ i. record {
      lines = c.lines + 1;
      holds = sym (add-zero c.holds) i;
      fails = sym (add-zero c.fails) i;
      opens = sym (add-zero c.opens) i;
      refused = c.refused + 1;
    }

-- The counts of answers, and the room that their listing takes.
-- Assumes nothing.
use mathlib.Core.Path.{◌≡◌, refl}
use Prim.Native.Nat.{ℕ, ◌+◌, ◌*◌, ◌≤◌, zero-le}
use native.Mathlib.Omega.{arith}
use mathlib.Core.Bool.{Bool, true, false}
use mathlib.Core.List.{List, [], ◌∷◌, map}
use lib.ListN.{length, length-append, length-map}
use lib.Dec.{eqb, lit≤}
use Rattle.algebra.specs.Choice.{pick}
use Rattle.text.proofs.Laws.{decimal_length}
use Rattle.std.specs.Prelude.{Ok, Err}
use Rattle.answer.proofs.Numbers.{refusal_range}
use Rattle.answer.specs.declared.Verdict.{Verdict}
use Rattle.answer.specs.declared.Verdict.TheVariants.{Holds, Fails, Open}
use Rattle.answer.specs.Answers.{Answer, verdict_number, refusal_number}
use Rattle.listing.specs.declared.Counts.{Counts}
use Rattle.listing.specs.Listing.{verdict_word, said, entry, entries, says, is_refused, count, counts, total, ended, joined, listing_of}
use Rattle.listing.proofs.Lengths.{entry_length, total_length}

-- ---- counts

one_le : (t : Bool) → pick t 1 0 ≤ 1
one_le true = lit≤ tt
one_le false = lit≤ tt

pub count_le : (p : Answer → Bool) (xs : List Answer) → count p xs ≤ length xs
unfolding count
count_le p [] = zero-le
count_le p (a ∷ xs) = omega (arith, one_le (p a), count_le p xs)

one_verdict : (v : Verdict) → pick (eqb 1 (verdict_number v)) 1 0 + pick (eqb 2 (verdict_number v)) 1 0 + pick (eqb 3 (verdict_number v)) 1 0 + 0 ≡ 1
one_verdict Holds = refl
one_verdict Fails = refl
one_verdict Open = refl

-- each answer is of one kind
one_kind : (a : Answer) → pick (says Holds a) 1 0 + pick (says Fails a) 1 0 + pick (says Open a) 1 0 + pick (is_refused a) 1 0 ≡ 1
one_kind (Ok j) = one_verdict j.verdict
one_kind (Err n) = refl

pub count_sum : (xs : List Answer) → length xs ≡ count (says Holds) xs + count (says Fails) xs + count (says Open) xs + count is_refused xs
unfolding count
count_sum [] = refl
count_sum (a ∷ xs) = omega (arith, one_kind a, count_sum xs)

-- no count is above n
pub record Within (c : Counts) (n : ℕ) : Type 0 where
  pub lines : c.lines ≤ n
  pub holds : c.holds ≤ n
  pub fails : c.fails ≤ n
  pub opens : c.opens ≤ n
  pub refused : c.refused ≤ n

pub counts_within : (xs : List Answer) → Within (counts xs) (length xs)
counts_within xs =
    record {
      lines = omega arith;
      holds = count_le (says Holds) xs;
      fails = count_le (says Fails) xs;
      opens = count_le (says Open) xs;
      refused = count_le is_refused xs;
    }

-- ---- the room that a listing takes

pub listing_length : (xs : List Answer) → length (listing_of xs) ≡ length (joined (entries 1 xs)) + length (ended (total (counts xs)))
unfolding listing_of
listing_length xs = length-append (joined (entries 1 xs)) _

word_room : (v : Verdict) → length (verdict_word v) ≤ 5
word_room Holds = lit≤ tt
word_room Fails = lit≤ tt
word_room Open = lit≤ tt

said_room : (a : Answer) → length (said a) ≤ 12
said_room (Ok j) = simp length-append (omega (arith, word_room j.verdict))
said_room (Err r) = simp length-append (omega (arith, decimal_length 1 (refusal_number r) (omega (arith, refusal_range r))))

-- answers that a rule gives
module _ (f : List ℕ → Answer) where
  entries_room : (ls : List (List ℕ)) (k : ℕ) → k + length ls ≤ 10000 → length (joined (entries k (map f ls))) ≤ 24 * length ls
  unfolding entries joined
  entries_room [] k h = zero-le
  entries_room (l ∷ ls) k h =
      omega (
        arith,
        length-append (ended (entry k (f l))) (joined (entries (k + 1) (map f ls))),
        entry_length k (f l),
        decimal_length 3 k (omega arith),
        said_room (f l),
        entries_room ls (k + 1) (omega arith),
      )

  pub listing_room : (ls : List (List ℕ)) → length ls ≤ 1024 → length (listing_of (map f ls)) ≤ 24 * length ls + 40
  listing_room ls h =
      let c = counts (map f ls) in
      let n = length-map ls f in
      let w = counts_within (map f ls) in
      omega (
        arith,
        listing_length (map f ls),
        entries_room ls 1 (omega arith),
        total_length c,
        decimal_length 3 c.lines (omega arith),
        decimal_length 3 c.holds (omega arith),
        decimal_length 3 c.fails (omega arith),
        decimal_length 3 c.opens (omega arith),
        decimal_length 3 c.refused (omega arith),
      )

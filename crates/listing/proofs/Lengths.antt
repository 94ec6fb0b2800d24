-- The lengths of a listing's lines.
-- Assumes nothing.
use mathlib.Core.Path.{◌≡◌}
use Prim.Native.Nat.{ℕ, ◌+◌}
use native.Mathlib.Omega.{arith}
use lib.ListN.{length, length-append}
use Rattle.text.specs.Bytes.{decimal}
use Rattle.std.specs.Prelude.{Result}
use Rattle.answer.specs.declared.Judgement.{Judgement}
use Rattle.answer.specs.Answers.{Answer}
use Rattle.listing.specs.declared.Counts.{Counts}
use Rattle.listing.specs.Listing.{said, said_by, entry, entry_by, total, ended}

pub entry_length : (k : ℕ) (a : Answer) → length (ended (entry k a)) ≡ 2 + length (decimal k) + length (said a)
unfolding entry
entry_length k a = simp length-append (omega arith)

pub entry_by_length : (k : ℕ) (a : Result Judgement ℕ) → length (ended (entry_by k a)) ≡ 2 + length (decimal k) + length (said_by a)
unfolding entry_by
entry_by_length k a = simp length-append (omega arith)

pub total_length : (c : Counts) → length (ended (total c))
    ≡ 13 + length (decimal c.lines) + length (decimal c.holds) + length (decimal c.fails) + length (decimal c.opens) + length (decimal c.refused)
unfolding total
total_length c = simp length-append (omega arith)

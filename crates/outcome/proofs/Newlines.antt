-- Lines are counted by newlines: what stands behind the last one is a line too. Assumes nothing.
use mathlib.Core.Path.{◌≡◌, refl, ◌∙◌}
use mathlib.Core.Bool.{Bool, true, false}
use mathlib.Core.List.{List, [], ◌∷◌}
use Prim.Native.Nat.{ℕ, suc, ◌+◌, ◌<◌}
use native.Mathlib.Omega.{arith}
use lib.ListN.{length}
use Rattle.algebra.specs.Choice.{pick}
use Rattle.text.specs.Bytes.{is_newline, on_first, lines, lacks_newline}
use Rattle.text.proofs.Laws.{lines_cons}
use Rattle.outcome.specs.Newlines.{newlines}

-- one more for bytes behind the last newline
abbrev pub one_if : Bool → ℕ
one_if b = pick b 1 0

on_first_lem : (b : ℕ) (ls : List (List ℕ)) → 0 < length ls → length (on_first b ls) ≡ length ls
unfolding on_first
on_first_lem b [] h = absurd (omega arith)
on_first_lem b (l ∷ ls) h = refl

some_line : (b : ℕ) (s : List ℕ) → 0 < length (lines (b ∷ s))
some_line b s = rw (lines_cons (b ∷ s) (omega arith)) (omega arith)

pub lines_by_newlines : (s : List ℕ) → length (lines s) ≡ newlines s + one_if (lacks_newline s)
unfolding lines newlines lacks_newline on_first
lines_by_newlines [] = refl
lines_by_newlines (b ∷ []) = go (is_newline b)
  where
    go : (t : Bool) → length (pick t ([] ∷ []) ((b ∷ []) ∷ [])) ≡ pick t 1 0 + pick (pick t false true) 1 0
    go true = refl
    go false = refl
lines_by_newlines (b ∷ c ∷ s) = go (is_newline b) (lines_by_newlines (c ∷ s))
  where
    go : (t : Bool) → length (lines (c ∷ s)) ≡ newlines (c ∷ s) + one_if (lacks_newline (c ∷ s))
        → length (pick t ([] ∷ lines (c ∷ s)) (on_first b (lines (c ∷ s)))) ≡ pick t (suc (newlines (c ∷ s))) (newlines (c ∷ s)) + one_if (lacks_newline (c ∷ s))
    go true h = omega (arith, h)
    go false h = on_first_lem b (lines (c ∷ s)) (some_line c s) ∙ h

-- The library's test for a prefix is that for fixed bytes. Assumes nothing.
use mathlib.Core.Path.{◌≡◌, refl, sym, ◌∙◌}
use Prim.Native.Nat.{ℕ, ◌+◌}
use mathlib.Core.Bool.{Bool, true, false, ◌&&◌}
use mathlib.Core.List.{List, [], ◌∷◌}
use Rattle.std.proofs.Common.{Bor, Option, Some, None}
use Rattle.std.specs.Option.{MatchOption}
use lib.ListN.{length, take, drop}
use lib.Pointwise.{pointwise}
use lib.Dec.{eqb}
use borrow.Author.Tests.{eqb-true, eq-eqb, eqb-false, ne_eqb}
use Rattle.algebra.specs.Choice.{pick}
use Rattle.format.specs.Readers.{starts_with, fixed}
use Rattle.format.specs.Seen.{passed}

eqb_turned : (b c : ℕ) → eqb c b ≡ eqb b c
eqb_turned b c = go (eqb b c) refl
  where
    go : (t : Bool) → eqb b c ≡ t → eqb c b ≡ eqb b c
    go true e = eq-eqb c b (sym (eqb-true b c e)) ∙ sym e
    go false e = ne_eqb c b (λ q. eqb-false b c e (sym q)) ∙ sym e

-- a test and then another is a choice
and_pick : (x y : Bool) → (x && y) ≡ pick x y false
and_pick true y = refl
and_pick false y = refl

pub starts_is_prefix : (w s : List ℕ) → pointwise eqb (take (length w) s) w ≡ starts_with w s
unfolding starts_with
starts_is_prefix [] s = refl
starts_is_prefix (b ∷ w) [] = refl
starts_is_prefix (b ∷ w) (c ∷ s) = rw (eqb_turned b c, starts_is_prefix w s) (and_pick (eqb b c) (starts_with w s))

-- what `strip_prefix` ensures of its result
pub passed_prefix : (w s : List ℕ) (o : Option (Bor (List ℕ)))
    → MatchOption o (pointwise eqb (take (length w) s) w ≡ false)
    (λ x. (pointwise eqb (take (length w) s) w ≡ true) × (x.now ≡ drop (length w) s) × (length x.now + length w ≡ length s))
    → passed o ≡ fixed w s
unfolding fixed
passed_prefix w s None e = sym (rw (← (starts_is_prefix w s), e) refl)
passed_prefix w s (Some x) (e, rest, size) = sym (rw (← (starts_is_prefix w s), e, rest) refl)

-- Laws on decisions: what an answer of a comparison says of a number known by its tests. Assumes nothing.
use mathlib.Core.Path.{◌≡◌, ap, ap₂, ◌∙◌}
use Prim.Native.Nat.{ℕ}
use lib.Dec.{leb}
use Rattle.std.proofs.Common.{arith}
use Rattle.std.specs.declared.cmp.Ordering.{Ordering}
use Rattle.std.specs.Ordering.{nat_cmp, is_le, is_ge}
use Rattle.cylinder.specs.Cut.{Cut}
use Rattle.root_order.specs.Decision.{Decides}

-- an answer says "at most" exactly if it is so
pub at_most_says : (u v : ℕ) → is_le (nat_cmp u v) ≡ leb u v
at_most_says u v = grind arith

-- and "at least"
pub at_least_says : (u v : ℕ) → is_ge (nat_cmp u v) ≡ leb v u
at_least_says u v = grind arith

-- the two sides that the code compares are those of the tests
pub decides : (c : Cut) (p q : ℕ) {o : Ordering} {A B A' B' : ℕ} → o ≡ nat_cmp A B → A ≡ A' → B ≡ B' → leb A' B' ≡ c.reaches p q → leb B' A' ≡ c.within p q → Decides o c p q
decides c p q {o} {A} {B} {A'} {B'} e l r up down =
    record {
      reaches = ap is_le e ∙ at_most_says A B ∙ ap₂ leb l r ∙ up;
      within = ap is_ge e ∙ at_least_says A B ∙ ap₂ leb r l ∙ down;
    }

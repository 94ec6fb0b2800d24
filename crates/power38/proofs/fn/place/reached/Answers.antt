-- `reached` of `power38::place` meets its contract. Assumes nothing.
use mathlib.Core.Path.{◌≡◌, ap, ◌∙◌}
use mathlib.Core.Bool.{Bool}
use lib.Dec.{leb}
use Prim.Native.Nat.{ℕ}
use Rattle.std.proofs.Common.{rules, Option, Some, None, Ordering, MatchOption}
use Rattle.std.specs.Ordering.{is_le}
use Rattle.interval.specs.Around.{Lies}
use Rattle.power38.proofs.fn.place.reached.Goals as goal

-- whether the first is the smaller or the same: by an order, if one is seen, else in another way
pub told : {P : Type 0} {Q : Ordering → Type 0} (o : Option Ordering) (r : Bool) (n m : ℕ) → Lies o n m → MatchOption o P Q → (P → r ≡ leb n m) → ((x : Ordering) → Q x → r ≡ is_le x) → r ≡ leb n m
told None r n m l s f g = f s
told (Some o) r n m l s f g = g o s ∙ ap is_le l ∙ search rules

pub returns : goal.returns
returns c =
    let k = c.requires in
    told c.parted.result c.map_or_else.result _ _ (c.parted.ensures _ _ (c.product.ensures _ _ c.power_50.ensures k.1) k.2) c.map_or_else.ensures (λ e. search rules) (λ o e. search rules)

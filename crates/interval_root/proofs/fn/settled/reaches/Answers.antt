-- `reaches` of `interval_root::settled` meets its contract: what the bounds tell holds of all numbers between them. Assumes nothing.
use mathlib.Core.Path.{◌≡◌, ap, ◌∙◌}
use mathlib.Core.Bool.{Bool}
use lib.Dec.{leb}
use Prim.Native.Nat.{ℕ}
use Rattle.std.proofs.Common.{rules, Option, Some, None, Ordering, IfSome, IsSomeAnd, MatchOption}
use Rattle.std.specs.Ordering.{is_le}
use Rattle.interval.specs.Around.{Lies}
use Rattle.interval_root.proofs.fn.settled.reaches.Goals as goal

-- whether the first is the smaller or the same, by an order that may be unseen
pub told : {post : Ordering → Bool → Type 0} (o : Option Ordering) (r : Option Bool) (n m : ℕ) → Lies o n m → MatchOption o (r ≡ None) (λ x. IsSomeAnd r (post x))
    → ((x : Ordering) (b : Bool) → post x b → b ≡ is_le x) → IfSome r (λ b. b ≡ leb n m)
told o None n m l s f = tt
told None (Some b) n m l s f = search rules
told (Some o) (Some b) n m l s f = f o b s ∙ ap is_le l ∙ search rules

pub returns : goal.returns
returns c n m x y = told c.parted.result c.map.result _ _ (c.parted.ensures _ _ (c.raised.ensures n x) y) c.map.ensures.cases (λ o b k. search rules)

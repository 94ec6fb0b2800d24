-- The later of two answers is what the smaller of two numbers gives. Assumes nothing.
use mathlib.Core.Path.{◌≡◌, refl, ap, ap₂, ◌∙◌}
use mathlib.Core.Bool.{◌&&◌, ◌||◌}
use Prim.Native.Nat.{ℕ}
use Rattle.std.specs.declared.cmp.Ordering.{Ordering}
use Rattle.std.specs.declared.cmp.Ordering.TheVariants.{Less, Equal, Greater}
use Rattle.std.specs.Ordering.{is_le, is_ge, nat_cmp, ord_max, ordering_index}
use Rattle.cylinder.specs.Cut.{Cut, smaller}
use Rattle.root_order.specs.Decision.{Decides}

-- the later by std's order of answers
abbrev pub later_of : Ordering → Ordering → Ordering
later_of a b = ord_max (λ x y. nat_cmp (ordering_index x) (ordering_index y)) a b

later_most : (a b : Ordering) → is_le (later_of a b) ≡ (is_le a && is_le b)
later_most Less Less = refl
later_most Less Equal = refl
later_most Less Greater = refl
later_most Equal Less = refl
later_most Equal Equal = refl
later_most Equal Greater = refl
later_most Greater Less = refl
later_most Greater Equal = refl
later_most Greater Greater = refl

later_least : (a b : Ordering) → is_ge (later_of a b) ≡ (is_ge a || is_ge b)
later_least Less Less = refl
later_least Less Equal = refl
later_least Less Greater = refl
later_least Equal Less = refl
later_least Equal Equal = refl
later_least Equal Greater = refl
later_least Greater Less = refl
later_least Greater Equal = refl
later_least Greater Greater = refl

-- the smaller of two numbers
pub decides_smaller : (s t : Cut) (p q : ℕ) {o a b : Ordering} → o ≡ later_of a b → Decides a s p q → Decides b t p q → Decides o (smaller s t) p q
decides_smaller s t p q {o} {a} {b} e h k =
    record {
      reaches = ap is_le e ∙ later_most a b ∙ ap₂ ◌&&◌ h.reaches k.reaches;
      within = ap is_ge e ∙ later_least a b ∙ ap₂ ◌||◌ h.within k.within;
    }

-- `product_samples::twenty_five` meets its contract. Assumes nothing.
use mathlib.Core.Path.{◌≡◌, refl, ap₂, ◌∙◌}
use mathlib.Core.List.{[], ◌∷◌}
use Prim.Native.Nat.{ℕ, ◌+◌, ◌*◌, ◌^◌}
use lib.Dec.{leb}
use Rattle.algebra.proofs.Ring.{ring, quoted}
use Rattle.factors.specs.Product.{prod}
use Rattle.product_samples.proofs.twenty_five.Goals as goal

left : (c e w p d : ℕ) → prod (23 ∷ c ∷ e ∷ w ∷ p ∷ p ∷ 23 ∷ c ∷ e ∷ w ∷ p ∷ p ∷ 23 ∷ c ∷ e ∷ w ∷ p ∷ p ∷ 23 ∷ c ∷ e ∷ w ∷ p ∷ p ∷ d ∷ []) ≡ (23 * c * e * w * p ^ 2) ^ 4 * d
left c e w p d = ring (c ∷ e ∷ w ∷ p ∷ d ∷ []) (search quoted depth 60 fits 100000) refl

right : (l y q r : ℕ) → prod (20000 ∷ l ∷ y ∷ q ∷ q ∷ 20000 ∷ l ∷ y ∷ q ∷ q ∷ 20000 ∷ l ∷ y ∷ q ∷ q ∷ 20000 ∷ l ∷ y ∷ q ∷ q ∷ 200 ∷ r ∷ []) ≡ (20000 * l * y * q ^ 2) ^ 4 * (200 * r)
right l y q r = ring (l ∷ y ∷ q ∷ r ∷ []) (search quoted depth 60 fits 100000) refl

pub returns : goal.returns
returns c = let a = c.args in c.at_most.ensures ∙ ap₂ leb (left a.c a.e a.w a.p (a.w + 3 * a.e)) (right a.l a.y a.q a.r)

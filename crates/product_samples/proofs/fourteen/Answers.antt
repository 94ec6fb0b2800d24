-- `product_samples::fourteen` meets its contract. Assumes nothing.
use mathlib.Core.Path.{◌≡◌, refl, ap₂, ◌∙◌}
use mathlib.Core.List.{[], ◌∷◌}
use Prim.Native.Nat.{ℕ, ◌*◌, ◌^◌}
use lib.Dec.{leb}
use Rattle.algebra.proofs.Ring.{ring, quoted}
use Rattle.factors.specs.Product.{prod}
use Rattle.product_samples.proofs.fourteen.Goals as goal

left : (c e w p v : ℕ) → prod (23 ∷ c ∷ e ∷ w ∷ p ∷ p ∷ 23 ∷ c ∷ e ∷ w ∷ p ∷ p ∷ w ∷ v ∷ []) ≡ (23 * c * e * w * p ^ 2) ^ 2 * w * v
left c e w p v = ring (c ∷ e ∷ w ∷ p ∷ v ∷ []) (search quoted depth 60 fits 100000) refl

right : (l y q r : ℕ) → prod (20000 ∷ l ∷ y ∷ q ∷ q ∷ 20000 ∷ l ∷ y ∷ q ∷ q ∷ 200 ∷ r ∷ []) ≡ (20000 * l * y * q ^ 2) ^ 2 * (200 * r)
right l y q r = ring (l ∷ y ∷ q ∷ r ∷ []) (search quoted depth 60 fits 100000) refl

pub returns : goal.returns
returns c = let a = c.args in c.at_most.ensures ∙ ap₂ leb (left a.c a.e a.w a.p a.v) (right a.l a.y a.q a.r)

-- `product_samples::forty` meets its contract. Assumes nothing.
use mathlib.Core.Path.{◌≡◌, refl, ap₂, ◌∙◌}
use mathlib.Core.List.{[], ◌∷◌}
use Prim.Native.Nat.{ℕ, ◌*◌, ◌^◌}
use lib.Dec.{leb}
use Rattle.algebra.proofs.Ring.{ring, quoted}
use Rattle.factors.specs.Product.{prod}
use Rattle.product_samples.proofs.forty.Goals as goal

fifth : (c e w p l y q r : ℕ) → prod (c ∷ e ∷ w ∷ p ∷ l ∷ y ∷ q ∷ r ∷ c ∷ e ∷ w ∷ p ∷ l ∷ y ∷ q ∷ r ∷ c ∷ e ∷ w ∷ p ∷ l ∷ y ∷ q ∷ r ∷ c ∷ e ∷ w ∷ p ∷ l ∷ y ∷ q ∷ r ∷ c ∷ e ∷ w ∷ p ∷ l ∷ y ∷ q ∷ r ∷ []) ≡ (c * e * w * p * l * y * q * r) ^ 5
fifth c e w p l y q r = ring (c ∷ e ∷ w ∷ p ∷ l ∷ y ∷ q ∷ r ∷ []) (search quoted depth 60 fits 100000) refl

pub returns : goal.returns
returns c = let a = c.args in c.at_most.ensures ∙ ap₂ leb (fifth a.c a.e a.w a.p a.l a.y a.q a.r) (fifth a.r a.q a.y a.l a.p a.w a.e a.c)

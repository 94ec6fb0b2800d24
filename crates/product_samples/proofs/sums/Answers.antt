-- `product_samples::sums` meets its contract. Assumes nothing.
use mathlib.Core.Path.{◌≡◌, refl, ap₂, ◌∙◌}
use mathlib.Core.List.{[], ◌∷◌}
use Prim.Native.Nat.{ℕ, ◌+◌, ◌*◌, ◌^◌}
use lib.Dec.{leb}
use Rattle.algebra.proofs.Ring.{ring, quoted}
use Rattle.factors.specs.Product.{prod}
use Rattle.product_samples.proofs.sums.Goals as goal

left : (c e w p l r : ℕ) → prod (e ∷ 44 ∷ w ∷ w ∷ l ∷ l ∷ l ∷ l ∷ p ∷ p ∷ []) + prod (e ∷ c ∷ r ∷ r ∷ r ∷ r ∷ r ∷ r ∷ p ∷ p ∷ []) ≡ e * (44 * w ^ 2 * l ^ 4 + c * r ^ 6) * p ^ 2
left c e w p l r = ring (c ∷ e ∷ w ∷ p ∷ l ∷ r ∷ []) (search quoted depth 60 fits 100000) refl

right : (y r l q : ℕ) → prod (y ∷ r ∷ r ∷ l ∷ l ∷ l ∷ l ∷ q ∷ q ∷ []) + prod (0 ∷ []) ≡ y * r ^ 2 * l ^ 4 * q ^ 2
right y r l q = ring (y ∷ r ∷ l ∷ q ∷ []) (search quoted depth 60 fits 100000) refl

pub returns : goal.returns
returns c = let a = c.args in c.sums_at_most.ensures ∙ ap₂ leb (left a.c a.e a.w a.p a.l a.r) (right a.y a.r a.l a.q)

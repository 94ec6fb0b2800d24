-- The sides of the row: the products that the code compares are those of the number's tests. Assumes nothing.
use mathlib.Core.Path.{◌≡◌, refl, ap, ap₂, ◌∙◌}
use mathlib.Core.List.{[], ◌∷◌}
use Prim.Native.Nat.{ℕ, ◌*◌, ◌-◌, ◌^◌}
use Rattle.std.specs.declared.cmp.Ordering.{Ordering}
use Rattle.std.specs.Ordering.{nat_cmp}
use Rattle.factors.specs.Product.{prod}
use Rattle.algebra.proofs.Ring.{ring, quoted}
use Rattle.cylinder.specs.declared.Cylinder.{Cylinder}
use Rattle.cylinder.specs.WholeIdeal.{shear_short_cut}
use Rattle.root_order.specs.Decision.{Decides}
use Rattle.root_order.proofs.Decision.{decides}

-- ---- plain numbers

pub shear_d : (r l f q : ℕ) → prod (25600000000 ∷ r ∷ l ∷ l ∷ l ∷ l ∷ f ∷ f ∷ q ∷ q ∷ q ∷ q ∷ []) ≡ 25600000000 * l ^ 4 * r * f ^ 2 * q ^ 4
shear_d r l f q = ring (r ∷ l ∷ f ∷ q ∷ []) (search quoted depth 60 fits 100000) refl

pub shear_c : (E w r p : ℕ) → prod (1134 ∷ E ∷ E ∷ w ∷ w ∷ w ∷ w ∷ r ∷ p ∷ p ∷ p ∷ p ∷ []) ≡ 1134 * E ^ 2 * w ^ 4 * r * p ^ 4
shear_c E w r p = ring (E ∷ w ∷ r ∷ p ∷ []) (search quoted depth 60 fits 100000) refl

pub shear_e : (E w l p : ℕ) → prod (1080000 ∷ E ∷ E ∷ w ∷ w ∷ l ∷ l ∷ l ∷ p ∷ p ∷ p ∷ p ∷ []) ≡ 1080000 * E ^ 2 * l ^ 3 * w ^ 2 * p ^ 4
shear_e E w l p = ring (E ∷ w ∷ l ∷ p ∷ []) (search quoted depth 60 fits 100000) refl

-- ---- the row

-- X and Y: d q⁴ and c p⁴, D their difference, Z: e p⁴
pub shear_short_row : (s : Cylinder) (p q : ℕ) {o : Ordering} {X Y D Z : ℕ} → X ≡ 25600000000 * s.length ^ 4 * s.radius * s.yield_stress ^ 2 * q ^ 4
    → Y ≡ 1134 * s.modulus ^ 2 * s.wall ^ 4 * s.radius * p ^ 4 → D ≡ X - Y → Z ≡ 1080000 * s.modulus ^ 2 * s.length ^ 3 * s.wall ^ 2 * p ^ 4
    → o ≡ nat_cmp (Z ^ 2 * s.wall) (D ^ 2 * (200 * s.radius)) → Decides o (shear_short_cut s) p q
shear_short_row s p q x y d z e =
    decides (shear_short_cut s) p q e (ap (λ (n : ℕ). n ^ 2 * s.wall) z) (ap (λ (n : ℕ). n ^ 2 * (200 * s.radius)) (d ∙ ap₂ ◌-◌ x y)) refl refl

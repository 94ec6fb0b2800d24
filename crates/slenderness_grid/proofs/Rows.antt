-- The two numbers of each root: those of the number's tests, as bounds have them and as factors. The answers of the four
-- searches by a root have one form over these rows; a lemma for them would take the row, the right side and the degree, and be as long. Assumes nothing.
use mathlib.Core.Path.{◌≡◌, refl, ap, ap₂, ◌∙◌}
use mathlib.Core.List.{[], ◌∷◌}
use Prim.Native.Nat.{ℕ, ◌+◌, ◌*◌, ◌^◌, ◌<◌}
use native.Mathlib.Nat.{mul_comm}
use lib.Dec.{leb, lit<}
use Rattle.factors.specs.Product.{prod}
use Rattle.algebra.proofs.Ring.{ring, quoted}
use Rattle.wide.specs.Value.{base}
use Rattle.cylinder.specs.declared.Cylinder.{Cylinder}
use Rattle.cylinder.specs.Cut.{Cut, root_of}
use Rattle.cylinder.specs.WholeIdeal.{ring_edges, axial_short_cut, axial_floor, ring_short_cut, ring_long_cut, shear_long_cut}
use Rattle.roots.specs.Largest.{largest}
use Rattle.ideal.proofs.Rows.{axial_floor_right}
use Rattle.slenderness_terms.specs.TermsFor.{axial_short_x, axial_short_y, ring_short_x, ring_short_y, ring_long_x, ring_long_y, shear_long_x, shear_long_y}
use Rattle.slenderness_grid.specs.Highest.{Highest}
use Rattle.slenderness_grid.proofs.Searches.{by_root}

-- ---- the factors

pub axial_short_x_lem : (E w r l : ℕ) → prod (48400 ∷ E ∷ w ∷ l ∷ l ∷ []) + prod (363 ∷ E ∷ w ∷ w ∷ r ∷ []) ≡ 121 * E * w * (400 * l ^ 2 + 3 * r * w)
axial_short_x_lem E w r l = ring (E ∷ w ∷ r ∷ l ∷ []) (search quoted depth 60 fits 100000) refl

axial_floor_x : (E w : ℕ) → prod (726 ∷ E ∷ w ∷ []) ≡ 6 * (121 * E * w)
axial_floor_x E w = ring (E ∷ w ∷ []) (search quoted depth 60 fits 100000) refl

pub ring_short_x_lem : (c E w : ℕ) → prod (529 ∷ c ∷ c ∷ E ∷ E ∷ w ∷ w ∷ w ∷ []) ≡ (23 * c * E * w) ^ 2 * w
ring_short_x_lem c E w = ring (c ∷ E ∷ w ∷ []) (search quoted depth 60 fits 100000) refl

pub ring_long_x_lem : (E w l c r : ℕ) → prod (44 ∷ E ∷ w ∷ w ∷ l ∷ l ∷ l ∷ l ∷ []) + prod (50750 ∷ E ∷ c ∷ c ∷ c ∷ c ∷ r ∷ r ∷ r ∷ r ∷ r ∷ r ∷ []) ≡ E * (44 * w ^ 2 * l ^ 4 + 50750 * c ^ 4 * r ^ 6)
ring_long_x_lem E w l c r = ring (E ∷ w ∷ l ∷ c ∷ r ∷ []) (search quoted depth 60 fits 100000) refl

pub shear_long_x_lem : (E w : ℕ) → prod (3 ∷ E ∷ E ∷ w ∷ w ∷ w ∷ []) ≡ 3 * E ^ 2 * w ^ 3
shear_long_x_lem E w = ring (E ∷ w ∷ []) (search quoted depth 60 fits 100000) refl

-- ---- the ring stress's test, the point taken out of its squares

pub ring_point : (k p w : ℕ) → (k * p ^ 2) ^ 2 * w ≡ p ^ 4 * (k ^ 2 * w)
ring_point k p w = ring (k ∷ p ∷ w ∷ []) (search quoted depth 60 fits 100000) refl

-- ---- the rows

module _ (s : Cylinder) (q cap : ℕ) (small : cap < base) where
  -- k/q is reached exactly if k ^ e * X is at most Y * q ^ e
  at_points : (c : Cut) (e X Y : ℕ) {k : ℕ} → 0 < e → ((k : ℕ) → c.reaches k q ≡ leb (k ^ e * X) (Y * q ^ e)) → k ≡ largest e cap X (q ^ e * Y) → Highest c q cap k
  at_points c e X Y pos same = by_root c q cap e X (q ^ e * Y) pos small (λ k. same k ∙ ap (leb (k ^ e * X)) (mul_comm Y (q ^ e)))

  pub axial_short_row : {k : ℕ} → k ≡ largest 2 cap (axial_short_x s) (q ^ 2 * axial_short_y s) → Highest (axial_short_cut s) q cap k
  axial_short_row = at_points (axial_short_cut s) 2 _ _ (lit< tt) (λ k. refl)

  pub axial_floor_row : {k : ℕ} → k ≡ largest 2 cap (prod (726 ∷ s.modulus ∷ s.wall ∷ [])) (prod (400000 ∷ s.radius ∷ s.yield_stress ∷ q ∷ q ∷ [])) → Highest (root_of 2 (axial_floor s)) q cap k
  axial_floor_row is =
      by_root (root_of 2 (axial_floor s)) q cap 2 _ _ (lit< tt) small (λ k. refl)
      (is ∙ ap₂ (largest 2 cap) (axial_floor_x s.modulus s.wall) (axial_floor_right s.radius s.yield_stress q))

  pub ring_short_row : {k : ℕ} → k ≡ largest 4 cap (ring_short_x s) (q ^ 4 * ring_short_y s) → Highest (ring_short_cut s) q cap k
  ring_short_row =
      by_root (ring_short_cut s) q cap 4 (ring_short_x s) (q ^ 4 * ring_short_y s) (lit< tt) small
      (λ k. ap₂ leb (ring_point (23 * ring_edges s.edges * s.modulus * s.wall) k s.wall) (ring_point (20000 * s.length * s.yield_stress) q (200 * s.radius)))

  pub ring_long_row : {k : ℕ} → k ≡ largest 2 cap (ring_long_x s) (q ^ 2 * ring_long_y s) → Highest (ring_long_cut s) q cap k
  ring_long_row = at_points (ring_long_cut s) 2 _ _ (lit< tt) (λ k. refl)

  pub shear_long_row : {k : ℕ} → k ≡ largest 4 cap (shear_long_x s) (q ^ 4 * shear_long_y s) → Highest (shear_long_cut s) q cap k
  shear_long_row = at_points (shear_long_cut s) 4 _ _ (lit< tt) (λ k. refl)

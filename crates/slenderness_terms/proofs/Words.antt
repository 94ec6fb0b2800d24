-- Words of 64 bits: how large the products of a cylinder's numbers are, and what the words of a term multiply to. Assumes nothing.
use mathlib.Core.Path.{◌≡◌, refl}
use mathlib.Core.List.{[], ◌∷◌}
use Prim.Native.Nat.{ℕ, ◌+◌, ◌*◌, ◌^◌, ◌≤◌}
use native.Mathlib.Nat.{mul-le-mul}
use Rattle.algebra.proofs.Ring.{ring, quoted}
use Rattle.cylinder.specs.declared.ValidCylinder.{ValidCylinder}

-- ---- how large

module _ (s : ValidCylinder) where
  most_ww : s.cylinder.wall * s.cylinder.wall ≤ 400000000
  most_ww = mul-le-mul s.in_limits.wall_most s.in_limits.wall_most

  pub most_wwww : s.cylinder.wall * s.cylinder.wall * s.cylinder.wall * s.cylinder.wall ≤ 160000000000000000
  most_wwww = mul-le-mul (mul-le-mul most_ww s.in_limits.wall_most) s.in_limits.wall_most

  most_ll : s.cylinder.length * s.cylinder.length ≤ 40000000000
  most_ll = mul-le-mul s.in_limits.length_most s.in_limits.length_most

  pub most_llff : s.cylinder.length * s.cylinder.length * s.cylinder.yield_stress * s.cylinder.yield_stress ≤ 19600000000000000
  most_llff = mul-le-mul (mul-le-mul most_ll s.in_limits.yield_most) s.in_limits.yield_most

-- ---- what words multiply to

pub axial_short_x_lem : (E w r l : ℕ) → 121 * E * w * (400 * l * l + 3 * r * w) ≡ 121 * E * w * (400 * l ^ 2 + 3 * r * w)
axial_short_x_lem E w r l = ring (E ∷ w ∷ r ∷ l ∷ []) (search quoted depth 60 fits 100000) refl

pub axial_short_y_lem : (r l f : ℕ) → 16000000 * r * f * (l * l) ≡ 16000000 * r * l ^ 2 * f
axial_short_y_lem r l f = ring (r ∷ l ∷ f ∷ []) (search quoted depth 60 fits 100000) refl

pub bent_d : (n r f : ℕ) → 400000 * n * f * r * r ≡ 400000 * n * r ^ 2 * f
bent_d n r f = ring (n ∷ r ∷ f ∷ []) (search quoted depth 60 fits 100000) refl

pub ring_short_x_lem : (c E w : ℕ) → 23 * c * E * w * (23 * c * E * w * w) ≡ (23 * c * E * w) ^ 2 * w
ring_short_x_lem c E w = ring (c ∷ E ∷ w ∷ []) (search quoted depth 60 fits 100000) refl

pub ring_short_y_lem : (r l f : ℕ) → 200 * (20000 * l * f) * (20000 * l * f * r) ≡ (20000 * l * f) ^ 2 * (200 * r)
ring_short_y_lem r l f = ring (r ∷ l ∷ f ∷ []) (search quoted depth 60 fits 100000) refl

pub ring_long_x_lem : (E w l c r : ℕ) → 44 * E * w * w * (l * l) * (l * l) + 50750 * E * c * c * c * c * (r * r * r) * (r * r * r) ≡ E * (44 * w ^ 2 * l ^ 4 + 50750 * c ^ 4 * r ^ 6)
ring_long_x_lem E w l c r = ring (E ∷ w ∷ l ∷ c ∷ r ∷ []) (search quoted depth 60 fits 100000) refl

pub ring_long_y_lem : (r l f : ℕ) → 6400000 * f * r * r * (l * l) * (l * l) ≡ 6400000 * r ^ 2 * l ^ 4 * f
ring_long_y_lem r l f = ring (r ∷ l ∷ f ∷ []) (search quoted depth 60 fits 100000) refl

pub shear_c : (E w r : ℕ) → 1134 * E * E * r * (w * w * w * w) ≡ 1134 * E ^ 2 * w ^ 4 * r
shear_c E w r = ring (E ∷ w ∷ r ∷ []) (search quoted depth 60 fits 100000) refl

pub shear_d : (r l f : ℕ) → 25600000000 * r * (l * l * f * f) * (l * l) ≡ 25600000000 * l ^ 4 * r * f ^ 2
shear_d r l f = ring (r ∷ l ∷ f ∷ []) (search quoted depth 60 fits 100000) refl

pub shear_e : (E w l : ℕ) → 1080000 * E * E * (l * l * l) * (w * w) ≡ 1080000 * E ^ 2 * l ^ 3 * w ^ 2
shear_e E w l = ring (E ∷ w ∷ l ∷ []) (search quoted depth 60 fits 100000) refl

pub shear_long_x_lem : (E w : ℕ) → 3 * E * E * (w * w * w) ≡ 3 * E ^ 2 * w ^ 3
shear_long_x_lem E w = ring (E ∷ w ∷ []) (search quoted depth 60 fits 100000) refl

pub shear_long_y_lem : (r f : ℕ) → 128000000 * f * f * (r * r * r) ≡ 128000000 * r ^ 3 * f ^ 2
shear_long_y_lem r f = ring (r ∷ f ∷ []) (search quoted depth 60 fits 100000) refl

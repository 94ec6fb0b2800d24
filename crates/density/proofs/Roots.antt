-- The tests that have a root beside a whole number: (c ± e √(x/y)) P ≤ d Q, on whole numbers.
use mathlib.Core.Path.{◌≡◌, refl, ap}
use Prim.Native.Nat.{ℕ, zero, suc, ◌+◌, ◌*◌, ◌-◌, ◌^◌, ◌≤◌, ◌<◌}
use native.Mathlib.Nat.{le_of_mul-le-mul_right, mul-le-mul, mul-le-mul_left, mul-le-mul_right, mul-lt-mul_of_pos_left, mul-pos, mul-sub, one-le-pow}
use mathlib.Core.Logic.{◌⊎◌, inl, inr}
use native.Mathlib.Omega.{arith}
use Rattle.algebra.proofs.Powers.{pow_two}

-- a/b ≤ a'/b' with squares
square_down : (m x y u u' P P' : ℕ) → 0 < P → u * P' ≤ u' * P → (m * P) ^ 2 * x ≤ u ^ 2 * y → (m * P') ^ 2 * x ≤ u' ^ 2 * y
square_down m x y u u' P P' pos le h =
    simp pow_two
    (le_of_mul-le-mul_right {k = P * P}
    (omega (arith, mul-le-mul_left (P' * P') (simp pow_two at h), mul-le-mul_left y (mul-le-mul le le))) (mul-pos pos pos))

square_up : (m x y v v' P P' : ℕ) → 0 < P → v' * P ≤ v * P' → v ^ 2 * y ≤ (m * P) ^ 2 * x → v' ^ 2 * y ≤ (m * P') ^ 2 * x
square_up m x y v v' P P' pos le h =
    simp pow_two
    (le_of_mul-le-mul_right {k = P * P}
    (omega (arith, mul-le-mul_left (P' * P') (simp pow_two at h), mul-le-mul_left y (mul-le-mul le le))) (mul-pos pos pos))

square_lt : (a b : ℕ) → a < b → a * a < b * b
square_lt a b lt = omega (arith, mul-le-mul_left a lt, mul-le-mul_right b lt)

-- u/P reaches m √(x/y), and w/A does not pass it: u/P < w/A is absurd
square_clash : (m x y u w P A : ℕ) → 0 < y → (m * P) ^ 2 * x ≤ u ^ 2 * y → w ^ 2 * y ≤ (m * A) ^ 2 * x → u * A < w * P → ⊥
square_clash m x y u w P A pos h g lt =
    omega (
      arith,
      mul-le-mul_left (A * A) (simp pow_two at h),
      mul-le-mul_left (P * P) (simp pow_two at g),
      mul-lt-mul_of_pos_left (square_lt (u * A) (w * P) lt) pos,
    )

none_below : (P' Q Q' : ℕ) → 0 < Q → P' * Q ≤ 0 * Q' → P' ≡ 0
none_below P' Q Q' pos le = let z : P' ≤ 0 = le_of_mul-le-mul_right {k = Q} (omega arith) pos in omega arith

sub_cross : (d c P Q P' Q' : ℕ) → P' * Q ≤ P * Q' → (d * Q - c * P) * P' ≤ (d * Q' - c * P') * P
sub_cross d c P Q P' Q' le = omega (arith, mul-sub P' (d * Q) (c * P), mul-sub P (d * Q') (c * P'), mul-le-mul_left d le)

sub_cross' : (d c P Q P' Q' : ℕ) → P' * Q ≤ P * Q' → (c * P' - d * Q') * P ≤ (c * P - d * Q) * P'
sub_cross' d c P Q P' Q' le = omega (arith, mul-sub P' (c * P) (d * Q), mul-sub P (c * P') (d * Q'), mul-le-mul_left d le)

-- ---- (c + e √(x/y)) P ≤ d Q
pub plus_down : (c e d x y P Q P' Q' : ℕ) → 0 < Q → P' * Q ≤ P * Q' → (e * P) ^ 2 * x ≤ (d * Q - c * P) ^ 2 * y → (e * P') ^ 2 * x ≤ (d * Q' - c * P') ^ 2 * y
plus_down c e d x y zero Q P' Q' pos le h = rw (none_below P' Q Q' pos le) (simp pow_two (omega arith))
plus_down c e d x y (suc P) Q P' Q' pos le h =
    square_down e x y (d * Q - c * suc P) (d * Q' - c * P') (suc P) P' (omega arith) (sub_cross d c (suc P) Q P' Q' le) h

pos_left : (n P B : ℕ) → n < P * B → 0 < P
pos_left n zero B lt = omega arith
pos_left n (suc P) B lt = omega arith

pos_side : (m u y : ℕ) → 0 < m → m ≤ u ^ 2 * y → 0 < u
pos_side m zero y pos h = omega (arith, simp pow_two at h)
pos_side m (suc u) y pos h = omega arith

pub plus_meet : (c e d x y P Q A B : ℕ) → 0 < e → 0 < d → 0 < x → 0 < y → (e * P) ^ 2 * x ≤ (d * Q - c * P) ^ 2 * y → (d * B - c * A) ^ 2 * y ≤ (e * A) ^ 2 * x → P * B ≤ A * Q
plus_meet c e d x y P Q A B epos dpos xpos ypos h g = let n : ¬ (A * Q < P * B) = clash in omega arith
  where
    clash : A * Q < P * B → ⊥
    clash lt =
        let some : 0 < d * Q - c * P = pos_side ((e * P) ^ 2 * x) (d * Q - c * P) y (mul-pos (one-le-pow 2 (e * P) (mul-pos epos (pos_left (A * Q) P B lt))) xpos) h in
        let over : c * P ≤ d * Q = omega arith in
        square_clash e x y (d * Q - c * P) (d * B - c * A) P A ypos h g
        (omega (arith, mul-sub A (d * Q) (c * P), mul-sub P (d * B) (c * A), mul-lt-mul_of_pos_left lt dpos, mul-le-mul_left A over))

near_square : (t w c : ℕ) → t ≤ w + c → w ≤ t → t * t ≤ w * w + 2 * (t * c)
near_square t w c h g = omega (arith, mul-le-mul_left t h, mul-le-mul_right w h, mul-le-mul_left c g)

plus_step : (c e x y A M u w : ℕ) → M ≡ 2 * (e * e * A * x) + e * e * x + 2 * (u * c * y) + 1 → (e * A) ^ 2 * x < u ^ 2 * y → u * M ≤ w + c → w ≤ u * M →
    (e * (A * M + 1)) ^ 2 * x ≤ w ^ 2 * y
plus_step c e x y A M u w m h a b =
    let one : 1 ≤ M = omega arith in
    simp pow_two
    (omega (
      arith,
      mul-le-mul_left y (near_square (u * M) w c a b),
      mul-le-mul_left (M * M) (simp pow_two at h),
      ap (λ (z : ℕ). M * z) m,
      mul-le-mul_left (e * e * x) one,
    ))

-- not within A/B: a little over A/B is reached
pub plus_above : (c e d x y A B : ℕ) → (e * A) ^ 2 * x < (d * B - c * A) ^ 2 * y → (M : ℕ) × (0 < M) × ((e * (A * M + 1)) ^ 2 * x ≤ (d * (B * M) - c * (A * M + 1)) ^ 2 * y)
plus_above c e d x y A B h = go (2 * (e * e * A * x) + e * e * x + 2 * (u * c * y) + 1) refl
  where
    u : ℕ
    u = d * B - c * A

    go : (M : ℕ) → M ≡ 2 * (e * e * A * x) + e * e * x + 2 * (u * c * y) + 1 → (M : ℕ) × (0 < M) × ((e * (A * M + 1)) ^ 2 * x ≤ (d * (B * M) - c * (A * M + 1)) ^ 2 * y)
    go M m = (
      M,
      omega arith,
      plus_step c e x y A M u (d * (B * M) - c * (A * M + 1)) m h (omega (arith, mul-sub M (d * B) (c * A))) (omega (arith, mul-sub M (d * B) (c * A))),
    )

-- ---- (c - e √(x/y)) P ≤ d Q
pub minus_down : (c e d x y P Q P' Q' : ℕ) → 0 < Q → P' * Q ≤ P * Q' → (c * P - d * Q) ^ 2 * y ≤ (e * P) ^ 2 * x → (c * P' - d * Q') ^ 2 * y ≤ (e * P') ^ 2 * x
minus_down c e d x y zero Q P' Q' pos le h = rw (none_below P' Q Q' pos le) (let z : c * 0 - d * Q' ≡ 0 = omega arith in rw z (simp pow_two (omega arith)))
minus_down c e d x y (suc P) Q P' Q' pos le h =
    square_up e x y (c * suc P - d * Q) (c * P' - d * Q') (suc P) P' (omega arith) (sub_cross' d c (suc P) Q P' Q' le) h

pub minus_meet : (c e d x y P Q A B : ℕ) → 0 < d → 0 < y → (c * P - d * Q) ^ 2 * y ≤ (e * P) ^ 2 * x → d * B ≤ c * A → (e * A) ^ 2 * x ≤ (c * A - d * B) ^ 2 * y → P * B ≤ A * Q
minus_meet c e d x y P Q A B dpos ypos h le g = let n : ¬ (A * Q < P * B) = clash in omega arith
  where
    clash : A * Q < P * B → ⊥
    clash lt =
        square_clash e x y (c * A - d * B) (c * P - d * Q) A P ypos g h
        (omega (arith, mul-sub A (c * P) (d * Q), mul-sub P (c * A) (d * B), mul-lt-mul_of_pos_left lt dpos, mul-le-mul_left P le))

minus_step : (c e x y A M u v : ℕ) → M ≡ 2 * (u * c * y) + c * c * y + c + 1 → u ^ 2 * y < (e * A) ^ 2 * x → v ≤ u * M + c → v ^ 2 * y ≤ (e * (A * M + 1)) ^ 2 * x
minus_step c e x y A M u v m h a =
    simp pow_two
    (omega (arith, mul-le-mul_left y (mul-le-mul a a), mul-le-mul_left (M * M) (simp pow_two at h), ap (λ (z : ℕ). M * z) m, mul-le-mul_left (c * c * y) (let one : 1 ≤ M = omega arith in one)))

pub minus_above : (c e d x y A B : ℕ) → (c * A < d * B) ⊎ ((c * A - d * B) ^ 2 * y < (e * A) ^ 2 * x) → (M : ℕ) × (0 < M) × ((c * (A * M + 1) - d * (B * M)) ^ 2 * y ≤ (e * (A * M + 1)) ^ 2 * x)
minus_above c e d x y A B (inl lt) = (c + 1, omega arith, rw z (simp pow_two (omega arith)))
  where
    z : c * (A * (c + 1) + 1) - d * (B * (c + 1)) ≡ 0
    z = omega (arith, mul-le-mul_right (c + 1) lt)
minus_above c e d x y A B (inr h) = go (2 * (u * c * y) + c * c * y + c + 1) refl
  where
    u : ℕ
    u = c * A - d * B

    go : (M : ℕ) → M ≡ 2 * (u * c * y) + c * c * y + c + 1 → (M : ℕ) × (0 < M) × ((c * (A * M + 1) - d * (B * M)) ^ 2 * y ≤ (e * (A * M + 1)) ^ 2 * x)
    go M m = (M, omega arith, minus_step c e x y A M u (c * (A * M + 1) - d * (B * M)) m h (omega (arith, mul-sub M (c * A) (d * B))))

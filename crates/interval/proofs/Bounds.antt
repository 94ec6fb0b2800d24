-- Laws of bounds over plain numbers: S scales, and P, Q, R are powers of two. Assumes nothing.
use mathlib.Core.Path.{◌≡◌, refl, sym, ap, ap₂, subst, ◌∙◌}
use Prim.Native.Nat.{ℕ, ◌+◌, ◌-◌, ◌*◌, ◌/◌, ◌≤◌, ◌<◌}
use native.Mathlib.Decide.{dec_lt}
use native.Mathlib.Nat.{mul-pos, le_trans, le_of_eq, lt_of_lt_of_le, mul_assoc, mul_comm, mul-sub, mul-le-mul, mul-le-mul_right, le_of_mul-le-mul_right, div-mul-le_self, div-lt_iff_lt-mul}
use native.Mathlib.Omega.{arith}
use lib.Pow.{pow-add, pow_pos}
use Rattle.interval.specs.declared.Interval.{Interval}
use Rattle.interval.specs.Around.{top, power, scale, Around}

-- powers of two multiply by adding
pub power_add : (p q : ℕ) → power (p + q) ≡ power p * power q
unfolding power
power_add p q = pow-add 2 p q

pub power_pos : (p : ℕ) → 0 < power p
unfolding power
power_pos p = pow_pos p

-- the scale, split at any power
pub scale_split : (p q : ℕ) → p + q ≡ 4096 → power p * power q ≡ scale
scale_split p q h = sym (power_add p q) ∙ ap power h

tops : top ≡ power 64
unfolding power
tops = refl

-- a product of powers, the scale taken out
pub scale_out : (p q : ℕ) → 4032 ≤ p + q → power p * power q * top ≡ power (p + q - 4032) * scale
scale_out p q h =
    ap (λ (e : ℕ). e * top) (sym (power_add p q)) ∙ ap (λ (e : ℕ). power (p + q) * e) tops ∙ sym (power_add (p + q) 64) ∙ ap power (shift (p + q) h) ∙ power_add (p + q - 4032) 4096
  where
    shift : (n : ℕ) → 4032 ≤ n → n + 64 ≡ n - 4032 + 4096
    shift n h = omega arith

-- bounds of a product
pub times_low : (l m h x y P Q R T S : ℕ) → 0 < S → P * Q * T ≡ R * S → l * P ≤ x * S → m * Q ≤ y * S → h * T ≤ l * m → h * R ≤ x * y * S
times_low l m h x y P Q R T S pos e a b c =
    le_of_mul-le-mul_right (le_trans (le_of_eq (left h R S P Q T e)) (le_trans (mul-le-mul_right (P * Q) c) (le_trans (le_of_eq (swap l m P Q)) (le_trans (mul-le-mul a b) (le_of_eq (right x y S)))))) pos
  where
    left : (h R S P Q T : ℕ) → P * Q * T ≡ R * S → h * R * S ≡ h * T * (P * Q)
    left h R S P Q T e = omega (arith, ap (λ (v : ℕ). h * v) e)

    swap : (l m P Q : ℕ) → l * m * (P * Q) ≡ l * P * (m * Q)
    swap l m P Q = omega arith

    right : (x y S : ℕ) → x * S * (y * S) ≡ x * y * S * S
    right x y S = omega arith

pub times_high : (l m h x y P Q R T S : ℕ) → 0 < S → P * Q * T ≡ R * S → x * S ≤ l * P → y * S ≤ m * Q → l * m ≤ h * T → x * y * S ≤ h * R
times_high l m h x y P Q R T S pos e a b c =
    le_of_mul-le-mul_right (le_trans (le_of_eq (right x y S)) (le_trans (mul-le-mul a b) (le_trans (le_of_eq (swap l m P Q)) (le_trans (mul-le-mul_right (P * Q) c) (le_of_eq (left h R S P Q T e)))))) pos
  where
    left : (h R S P Q T : ℕ) → P * Q * T ≡ R * S → h * T * (P * Q) ≡ h * R * S
    left h R S P Q T e = omega (arith, ap (λ (v : ℕ). h * v) e)

    swap : (l m P Q : ℕ) → l * P * (m * Q) ≡ l * m * (P * Q)
    swap l m P Q = omega arith

    right : (x y S : ℕ) → x * y * S * S ≡ x * S * (y * S)
    right x y S = omega arith

-- upper bounds of a product: g and k are the gaps
pub gap_times : (l m h g k T : ℕ) → l ≤ T → m ≤ T → g * k ≤ T → l * m ≤ (h + 1) * T → (l + g) * (m + k) ≤ (h + (g + k + 2)) * T
gap_times l m h g k T a b c d = omega (arith, d, c, mul-le-mul_right g b, mul-le-mul_right k a)

-- a product above 0 has no factor 0
pub factor_pos : (l m h T : ℕ) → 0 < h → 0 < T → h * T ≤ l * m → (0 < l) × (0 < m)
factor_pos l m h T p q e = (pos l m (lt_of_lt_of_le (mul-pos p q) e), pos m l (lt_of_lt_of_le (mul-pos p q) (le_trans e (le_of_eq (mul_comm l m)))))
  where
    pos : (a b : ℕ) → 0 < a * b → 0 < a
    pos a b h = elim (dec_lt 0 a) [ yes k ↦ k | no k ↦ let z : a ≡ 0 = omega arith in absurd (omega (arith, rw z at h)) ]

-- bounds at a larger power: M is the step
pub level_low : (l x P M S : ℕ) → 0 < M → l * P ≤ x * S → l / M * (M * P) ≤ x * S
level_low l x P M S pos h = le_trans (le_of_eq (sym (mul_assoc (l / M) M P))) (le_trans (mul-le-mul_right P (div-mul-le_self l M)) h)

over : (l M : ℕ) → 0 < M → l < (l / M + 1) * M
over l M pos = (div-lt_iff_lt-mul pos).0 (omega arith)

pub level_high : (l g x P M S : ℕ) → 0 < M → x * S ≤ (l + g) * P → x * S ≤ (l / M + (g / M + 2)) * (M * P)
level_high l g x P M S pos h =
    le_trans h (le_trans (mul-le-mul_right P (sum (l / M) (g / M) (over l M pos) (over g M pos))) (le_of_eq (mul_assoc (l / M + (g / M + 2)) M P)))
  where
    sum : (a b : ℕ) → l < (a + 1) * M → g < (b + 1) * M → l + g ≤ (a + (b + 2)) * M
    sum a b h k = omega arith

-- bounds of a sum
pub plus_low : (l m x y P S : ℕ) → l * P ≤ x * S → m * P ≤ y * S → (l + m) * P ≤ (x + y) * S
plus_low l m x y P S h k = omega (arith, h, k)

pub plus_high : (l m g k x y P S : ℕ) → x * S ≤ (l + g) * P → y * S ≤ (m + k) * P → (x + y) * S ≤ (l + m + (g + k)) * P
plus_high l m g k x y P S h j = omega (arith, h, j)

-- bounds of a difference: n is the other's upper bound
sub_times : (l m k : ℕ) → (l - m) * k ≡ l * k - m * k
sub_times l m k = mul_comm (l - m) k ∙ mul-sub k l m ∙ ap₂ ◌-◌ (mul_comm k l) (mul_comm k m)

pub minus_low : (l n x y P S : ℕ) → l * P ≤ x * S → y * S ≤ n * P → (l - n) * P ≤ (x - y) * S
minus_low l n x y P S h j = rw (sub_times l n P, sub_times x y S) (omega arith)

pub minus_high : (l m g k x y P S : ℕ) → m + k ≤ l → x * S ≤ (l + g) * P → m * P ≤ y * S → (x - y) * S ≤ (l - (m + k) + (g + k)) * P
minus_high l m g k x y P S p h j = let e : l - (m + k) + (g + k) ≡ l + g - m = omega arith in rw (e, sub_times (l + g) m P, sub_times x y S) (omega arith)

-- an upper bound m below a lower bound n
pub apart : (m n x y P S : ℕ) → m < n → 0 < P → x * S ≤ m * P → n * P ≤ y * S → x < y
apart m n x y P S lt pos h k = elim (dec_lt x y) [ yes l ↦ l | no l ↦ absurd (omega (arith, mul-le-mul_right {n = n} P lt, mul-le-mul_right {m = y} {n = x} S (omega arith))) ]

-- bounds of a number in other words
pub around_as : (a : Interval) {n m : ℕ} → n ≡ m → Around a n → Around a m
around_as a e h = subst (λ (x : ℕ). Around a x) e h

-- Powers of numbers: a product's power, fractions' powers compared, and the first powers as products.
-- `omega` takes a power for an unknown: `simp (pow_two, pow_three) (omega arith)` multiplies it out first. `ring`, `le` and `nl` read powers as they are.
-- In the kit: `one-le-pow n a h` (0 < a ^ n, from h : 0 < a), `pow-zero`, `pow-suc`, `pow-succ'`, `pow-le-pow_left h n` (a ^ n ≤ b ^ n), `pow-le-pow_right`,
-- `pow-lt-pow_left` of native.Mathlib.Nat; `pow-add` (a ^ (i + j)) and the powers of two of lib.Pow.
use mathlib.Core.Path.{◌≡◌, refl}
use mathlib.Core.List.{[], ◌∷◌}
use Prim.Native.Nat.{ℕ, zero, suc, ◌*◌, ◌^◌, ◌≤◌}
use native.Mathlib.Nat.{pow-zero, pow-suc, pow-le-pow_left}
use native.Mathlib.Omega.{arith}
use Rattle.algebra.proofs.Ring.{ring, quoted}

-- the power of a product
pub mul_pow : (a b n : ℕ) → (a * b) ^ n ≡ a ^ n * b ^ n
mul_pow a b zero = simp pow-zero
mul_pow a b (suc n) = simp (pow-suc, mul_pow a b n) (omega arith)

-- for p'/q' ≤ p/q: the same for the n-th powers
pub cross_pow : (p q p' q' n : ℕ) → p' * q ≤ p * q' → p' ^ n * q ^ n ≤ p ^ n * q' ^ n
cross_pow p q p' q' n h = simp (← mul_pow) (pow-le-pow_left h n)

-- the powers that formulas have, as products
pub pow_one : (a : ℕ) → a ^ 1 ≡ a
pow_one a = ring (a ∷ []) (search quoted depth 60 fits 100000) refl

pub pow_two : (a : ℕ) → a ^ 2 ≡ a * a
pow_two a = ring (a ∷ []) (search quoted depth 60 fits 100000) refl

pub pow_three : (a : ℕ) → a ^ 3 ≡ a * a * a
pow_three a = ring (a ∷ []) (search quoted depth 60 fits 100000) refl

pub pow_four : (a : ℕ) → a ^ 4 ≡ a * a * a * a
pow_four a = ring (a ∷ []) (search quoted depth 60 fits 100000) refl

pub pow_five : (a : ℕ) → a ^ 5 ≡ a * a * a * a * a
pow_five a = ring (a ∷ []) (search quoted depth 60 fits 100000) refl

pub pow_six : (a : ℕ) → a ^ 6 ≡ a * a * a * a * a * a
pow_six a = ring (a ∷ []) (search quoted depth 60 fits 100000) refl

-- Between two different numbers lies a fraction.
use Prim.Native.Nat.{ℕ, zero, suc, ◌+◌, ◌*◌, ◌^◌, ◌≤◌, ◌<◌}
use native.Mathlib.Nat.{le_of_mul-le-mul_left, mul-le-mul_left, mul-le-mul_right, mul-pos, pow-suc, pow-zero}
use native.Mathlib.Omega.{arith}
use Rattle.algebra.proofs.Powers.{mul_pow}

grow : ℕ → ℕ → ℕ
grow a zero = 0
grow a (suc k) = a ^ k + grow a k * (a + 1)

growth : (a m k : ℕ) → 0 < m → m * (a * m + 1) ^ k ≤ m * (a * m) ^ k + grow a k * m ^ k
unfolding grow
growth a m zero pos = simp pow-zero (omega arith)
growth a m (suc k) pos =
    simp (pow-suc, mul_pow)
    (omega (arith, mul-le-mul_right (a * m + 1) (simp mul_pow at (growth a m k pos)), mul-le-mul_left (grow a k * m ^ k) pos))

-- A (a/b)ᵏ < B: some fraction p/q over a/b has A (p/q)ᵏ ≤ B
pub dense : (k A B a b : ℕ) → 0 < b → A * a ^ k < B * b ^ k → (p : ℕ) × (q : ℕ) × (0 < q) × (a * q < p * b) × (A * p ^ k ≤ B * q ^ k)
dense k A B a b pos h = (a * m + 1, b * m, mul-pos pos mpos, omega arith, le_of_mul-le-mul_left {k = m} last mpos)
  where
    m : ℕ
    m = A * grow a k + 1

    mpos : 0 < m
    mpos = omega arith

    g : A * grow a k ≤ m
    g = omega arith

    last : m * (A * (a * m + 1) ^ k) ≤ m * (B * (b * m) ^ k)
    last = simp mul_pow (omega (arith, mul-le-mul_left A (simp mul_pow at (growth a m k mpos)), mul-le-mul_right (m ^ k) g, mul-le-mul_left (m * m ^ k) h))

-- The factors 10^12, twice, and 3,000,000 in other words. Assumes nothing.
use mathlib.Core.Path.{◌≡◌}
use Prim.Native.Nat.{ℕ, ◌*◌, ◌^◌}
use native.Mathlib.Omega.{arith}

pub twice : {v w z y : ℕ} → v ≡ w * 1000000000000 → w ≡ z * 1000000000000 → z ≡ y → v ≡ y * 1000000 ^ 4
twice e f g = omega arith

pub thrice : {v w y : ℕ} → v ≡ w * 3000000 → w ≡ y → v ≡ 3 * y * 1000000
thrice e f = omega arith

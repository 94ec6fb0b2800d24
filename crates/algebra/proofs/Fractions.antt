-- Orders between fractions, on whole numbers: p'/q' ≤ p/q is written p' * q ≤ p * q'.
-- Call: `carry A B p q p' q' pos le h`, with the numbers in the order of the statement. Facts that do not have its shape are brought into it by `omega arith`
-- or `ring`. A refusal names the numbers that differ.
use Prim.Native.Nat.{ℕ, ◌*◌, ◌≤◌, ◌<◌}
use native.Mathlib.Nat.{le_of_mul-le-mul_right, mul-le-mul_left, mul-le-mul_right, mul-pos}
use native.Mathlib.Omega.{arith}

-- for p'/q' ≤ p/q: a bound A * (p/q) ≤ B holds of p'/q' too. Only q has to be positive.
pub carry : (A B p q p' q' : ℕ) → 0 < q → p' * q ≤ p * q' → A * p ≤ B * q → A * p' ≤ B * q'
carry A B p q p' q' pos le h = le_of_mul-le-mul_right {k = q} (omega (arith, mul-le-mul_left A le, mul-le-mul_right q' h)) pos

-- for n'/d' ≤ n/d: a bound (F/G) * (n/d) ≤ ν/β, as a formula has it, holds of n'/d' too
pub lift : (β ν F G n d n' d' : ℕ) → 0 < G → 0 < d → n' * d ≤ n * d' → β * (F * n) ≤ G * d * ν → β * (F * n') ≤ G * d' * ν
lift β ν F G n d n' d' G-pos d-pos le h =
    omega (arith, carry β ν (F * n) (G * d) (F * n') (G * d') (mul-pos G-pos d-pos) (omega (arith, mul-le-mul_left (F * G) le)) (omega arith))

-- Between k/q and (k + 1)/q a factor of the resistance falls by little, and so a term rises by little.
use mathlib.Core.Path.{◌≡◌, ap}
use mathlib.Core.Bool.{true, false}
use Prim.Native.Nat.{ℕ, ◌+◌, ◌*◌, ◌-◌, ◌^◌, ◌≤◌, ◌<◌}
use native.Mathlib.Nat.{mul-le-mul, mul-le-mul_left, mul-pos, le_of_mul-le-mul_right, lt_of_not-le, pow-le-pow_left, one-le-pow}
use native.Mathlib.Omega.{arith}
use borrow.Author.Tests.{leb-true, le-leb}
use Rattle.algebra.proofs.Fractions.{lift}
use Rattle.algebra.proofs.Powers.{mul_pow, cross_pow, pow_two, pow_three}
use Rattle.cylinder.specs.Factor.{Factor, constant, falling, inverse, divided, times}
use Rattle.cylinder.specs.WholeTerm.{Term, formula}
use Rattle.algebra.proofs.Tests.{clash}

-- the factor at k/q is at most d/c of that at (k + 1)/q
abbrev pub Slow : ℕ → ℕ → Factor → ℕ → ℕ → Type 0
Slow c d f k q = f.num k q * c * f.den (k + 1) q ≤ f.num (k + 1) q * (f.den k q * d)

pub constant_slow : (a b c k q : ℕ) → Slow c (c + 1) (constant a b) k q
constant_slow a b c k q = omega arith

pub falling_slow : (a b e c k q : ℕ) → b * (k + 1) + b * c ≤ a * q → Slow c (c + 1) (falling a b e) k q
falling_slow a b e c k q h =
    let x : ℕ = a * q - b * (k + 1) in
    let y : ℕ = a * q - b * k in
    let small : b * c ≤ x = omega arith in
    let step : y ≡ x + b = omega arith in
    omega (arith, mul-le-mul_left (e * q) small, ap (λ (z : ℕ). z * c * (e * q)) step)

pub square_slow : (a b c k q : ℕ) → 0 < k → 3 * c ≤ k → Slow c (c + 1) (inverse 2 a b) k q
square_slow a b c k q pos h =
    simp pow_two (omega (arith, mul-le-mul_left (a * (q * q) * b * k) h, mul-le-mul_left (a * (q * q) * b * c) pos))

pub cube_slow : (a b c k q : ℕ) → 0 < k → 7 * c ≤ k → Slow c (c + 1) (inverse 3 a b) k q
cube_slow a b c k q pos h =
    let z : ℕ = a * (q * q * q) * b in
    simp pow_three
    (omega (arith, mul-le-mul_left (z * k * k) h, mul-le-mul_left (z * k * c) pos, mul-le-mul_left (z * c) pos, mul-le-mul_left (z * c) (mul-le-mul pos pos)))

pub divided_slow : (a b e c k q : ℕ) → b * c ≤ a * q → Slow c (c + 1) (divided a b e) k q
divided_slow a b e c k q h = omega (arith, mul-le-mul_left (e * q) h)

pub times_slow : (c d c' d' : ℕ) (f g : Factor) (k q : ℕ) → Slow c d f k q → Slow c' d' g k q → Slow (c * c') (d * d') (times f g) k q
times_slow c d c' d' f g k q F G = omega (arith, mul-le-mul F G)

finish : (L H g h F N G D ν c d : ℕ) → 0 < c → 0 < h → L * h ≤ H * g → d * g ≤ h * c → H * (F * (N * c)) ≤ G * (D * d) * ν → L * (F * N) ≤ G * D * ν
finish L H g h F N G D ν c d cpos hpos lh dg e =
    le_of_mul-le-mul_right {k = h * c}
    (omega (arith, mul-le-mul_left (F * N * c) lh, mul-le-mul_left g e, mul-le-mul_left (G * D * ν) dg)) (mul-pos hpos cpos)

-- the formula at k/q misses l/n and that at (k + 1)/q reaches r/n: then r/l is below h/g
pub accurate : (t : Term) (k q n c d g h l r : ℕ) → 0 < t.load → 0 < t.factor.den (k + 1) q → 0 < c → 0 < h → Slow c d t.factor k q →
    d ^ t.power * g ^ t.rise ≤ h ^ t.rise * c ^ t.power → formula t k q l n ≡ false → formula t (k + 1) q r n ≡ true → r * g < l * h
accurate t k q n c d g h l r pos dpos cpos hpos slow close miss reach =
    lt_of_not-le λ le.
    clash
    (le-leb _ _
    (finish (l ^ t.rise) (r ^ t.rise) (g ^ t.rise) (h ^ t.rise) t.top (t.factor.num k q ^ t.power) t.load (t.factor.den k q ^ t.power)
    (n ^ t.rise) (c ^ t.power) (d ^ t.power) (one-le-pow t.power c cpos) (one-le-pow t.rise h hpos) (cross_pow r h l g t.rise le) close
    (lift (r ^ t.rise) (n ^ t.rise) t.top t.load _ _ _ _ pos (one-le-pow t.power (t.factor.den (k + 1) q) dpos)
    (simp (← mul_pow) (pow-le-pow_left slow t.power)) (leb-true _ _ reach))))
    miss

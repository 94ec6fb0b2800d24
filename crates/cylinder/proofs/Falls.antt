-- Each factor of the resistance falls as the slenderness grows.
use Prim.Native.Nat.{ℕ, ◌*◌, ◌≤◌}
use native.Mathlib.Nat.{le_refl, mul-le-mul, mul-le-mul_left, mul-sub}
use native.Mathlib.Omega.{arith}
use Rattle.cylinder.specs.Factor.{Factor, constant, falling, inverse, divided, times}
use Rattle.algebra.proofs.Powers.{cross_pow}

-- p/q ≤ p'/q'
abbrev pub Falls : Factor → Type 0
Falls f = (p q p' q' : ℕ) → p * q' ≤ p' * q → f.num p' q' * f.den p q ≤ f.num p q * f.den p' q'

pub constant_falls : (c d : ℕ) → Falls (constant c d)
constant_falls c d p q p' q' h = le_refl (c * d)

pub falling_falls : (a b c : ℕ) → Falls (falling a b c)
falling_falls a b c p q p' q' h = omega (arith, mul-sub (c * q) (a * q') (b * p'), mul-sub (c * q') (a * q) (b * p), mul-le-mul_left (b * c) h)

pub inverse_falls : (n c d : ℕ) → Falls (inverse n c d)
inverse_falls n c d p q p' q' h = omega (arith, mul-le-mul_left (c * d) (cross_pow p' q' p q n h))

pub divided_falls : (a b c : ℕ) → Falls (divided a b c)
divided_falls a b c p q p' q' h = omega (arith, mul-le-mul_left (b * c) h)

pub times_falls : (f g : Factor) → Falls f → Falls g → Falls (times f g)
times_falls f g F G p q p' q' h = omega (arith, mul-le-mul (F p q p' q' h) (G p q p' q' h))

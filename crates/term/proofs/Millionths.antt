-- The largest root is the most millionths that a term's formula reaches. Assumes nothing.
use mathlib.Core.Path.{◌≡◌, sym}
use Prim.Native.Nat.{ℕ, ◌*◌, ◌^◌, ◌<◌}
use native.Mathlib.Omega.{arith}
use Rattle.algebra.specs.Bisection.{Edge}
use Rattle.algebra.proofs.Bisection.{bisect_edge}
use Rattle.algebra.proofs.Powers.{mul_pow}
use Rattle.roots.specs.Largest.{test, largest}
use Rattle.roots.proofs.Largest.{nothing, over, largest_only}
use Rattle.cylinder.specs.Factor.{Factor}
use Rattle.cylinder.specs.WholeTerm.{Term}
use Rattle.cylinder.specs.Search.{most}
use Rattle.cylinder.specs.declared.Stress.{Stress}
use Rattle.cylinder.specs.declared.Stress.TheVariants.{Axial, Ring, Shear}
use Rattle.millionths.specs.Reached.{reached_by}
use Rattle.term.specs.declared.Branches.{Branches}
use Rattle.term.specs.TermOf.{factor1, factor2, factor_of, term_of, power_of}

-- x and y in the largest root of a term's formula
abbrev below : Term → ℕ → ℕ → ℕ
below t p q = t.top * t.factor.num p q ^ t.power

abbrev above : Term → ℕ → ℕ → ℕ
above t p q = t.load * t.factor.den p q ^ t.power * 1000000 ^ t.rise

edge : (t : Term) (p q : ℕ) → 0 < t.rise → Edge (test t.rise 2000000 (below t p q) (above t p q)) (most t p q)
unfolding most
edge t p q pos =
    let x : ℕ = below t p q in
    let y : ℕ = above t p q in
    bisect_edge (test t.rise 2000000 x y) 21 0 2000001 (omega arith) (omega arith) (nothing t.rise 2000000 x y pos) (over t.rise 2000000 x y 2000001 (omega arith))

pub most_is : (t : Term) (p q : ℕ) → 0 < t.rise → largest t.rise 2000000 (below t p q) (above t p q) ≡ most t p q
most_is t p q pos = sym (largest_only t.rise 2000000 (below t p q) (above t p q) pos (omega arith) (most t p q) (edge t p q pos))

-- for axial and ring stress
fifths : (f : Factor) (c a p q : ℕ) → largest 4 2000000 ((c * f.num p q) ^ 5) ((a * f.den p q) ^ 5 * 1000000 ^ 4) ≡ most record { rise = 4; power = 5; top = c ^ 5; load = a ^ 5; factor = f } p q
fifths f c a p q = rw (mul_pow c (f.num p q) 5, mul_pow a (f.den p q) 5) (most_is record { rise = 4; power = 5; top = c ^ 5; load = a ^ 5; factor = f } p q (omega arith))

-- for shear
squares : (f : Factor) (c a p q : ℕ) → largest 1 2000000 ((c * f.num p q) ^ 2) (3 * (a * f.den p q) ^ 2 * 1000000) ≡ most record { rise = 1; power = 2; top = c ^ 2; load = 3 * a ^ 2; factor = f } p q
squares f c a p q = rw (mul_pow c (f.num p q) 2, apart) (most_is record { rise = 1; power = 2; top = c ^ 2; load = 3 * a ^ 2; factor = f } p q (omega arith))
  where
    apart : 3 * (a * f.den p q) ^ 2 ≡ 3 * a ^ 2 * f.den p q ^ 2
    apart = rw (mul_pow a (f.den p q) 2) (omega arith)

-- for each stress
pub reached_is : (s : Stress) (b : Branches) (fy num den e k q : ℕ)
    → reached_by (power_of s) (10000 * fy * den * (factor_of s b e).num k q) (11 * num * (factor_of s b e).den k q) ≡ most (term_of s b fy num den e) k q
reached_is Axial b fy num den e k q = fifths (factor2 b e) (10000 * fy * den) (11 * num) k q
reached_is Ring b fy num den e k q = fifths (factor1 b e) (10000 * fy * den) (11 * num) k q
reached_is Shear b fy num den e k q = squares (factor1 b e) (10000 * fy * den) (11 * num) k q

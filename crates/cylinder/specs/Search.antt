-- The grid, the search on it, and the bounds L and U.
-- Nobody has to believe this: proofs/SumBounds.antt has that the bounds are right.
use Rattle.std.specs.Prelude.{ℕ, zero, suc, ◌+◌, ◌/◌, min, ◌&&◌, leb}
use Rattle.algebra.specs.Bisection.{bisect}
use Rattle.cylinder.specs.declared.Cylinder.{Cylinder}
use Rattle.cylinder.specs.Fraction.{Fraction}
use Rattle.algebra.specs.Choice.{pick}
use Rattle.cylinder.specs.Cut.{Cut}
use Rattle.cylinder.specs.WholeIdeal.{axial_cut, ring_cut, shear_cut}
use Rattle.cylinder.specs.WholeTerm.{Term, formula}
use Rattle.cylinder.specs.WholeStress.{axial_term, ring_term, shear_term}

-- A slenderness is placed on the points k/q: finer below 2, where the curves are steep. The limits of all branches are such points.
unfoldable pub grid : Cut → ℕ
grid s = pick (s.reaches 2 1) 8000000 200000000

-- the largest k such that s reaches k/q; it is below 2³² since each slenderness is below 536
unfoldable pub place : Cut → ℕ → ℕ
unfolding bisect
place s q = bisect (λ k. s.reaches k q) 32 0 4294967296

-- the largest b up to 2,000,000 such that the formula at p/q reaches b/1,000,000
unfoldable pub most : Term → ℕ → ℕ → ℕ
unfolding bisect
most t p q = bisect (λ b. leb b 2000000 && formula t p q b 1000000) 21 0 2000001

pub record Pair : Type 0 where
  pub low : ℕ
  pub high : ℕ

-- One step of the grid changes a term by less than 2 millionths, so nothing is worked at (k + 1)/q.
abbrev pub around : ℕ → Pair
around b = record { low = b; high = b + 2 }

-- a term in millionths, on the grid of 1/q; x is the numerator of its stress
unfoldable pub term_bounds : ℕ → ℕ → Cut → Term → Pair
unfolding place most
term_bounds q zero s t = record { low = 0; high = 0 }
term_bounds q (suc x) s t = let k : ℕ = place s q in around (most t k q)

abbrev pub axial_bounds : Cylinder → Fraction → Pair
axial_bounds s σ = term_bounds (grid (axial_cut s)) σ.num (axial_cut s) (axial_term s σ)

abbrev pub ring_bounds : Cylinder → Fraction → Pair
ring_bounds s σ = term_bounds (grid (ring_cut s)) σ.num (ring_cut s) (ring_term s σ)

abbrev pub shear_bounds : Cylinder → Fraction → Pair
shear_bounds s τ = term_bounds (grid (shear_cut s)) τ.num (shear_cut s) (shear_term s τ)

-- L and U, in ten-thousandths; `more` is added to the sum on its high side, in millionths
unfoldable pub sum_bounds : ℕ → Cylinder → Fraction → Fraction → Fraction → Pair
unfolding grid term_bounds
sum_bounds more s σx σφ τ =
    let a : Pair = axial_bounds s σx in
    let r : Pair = ring_bounds s σφ in
    let h : Pair = shear_bounds s τ in
    record { low = min 20000 ((a.low + r.low + h.low) / 100); high = min 20000 ((a.high + r.high + h.high + more + 99) / 100) }

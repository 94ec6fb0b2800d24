-- The gain between two fractions, and the stress that the sum is worked with, in whole numbers.
-- Nobody has to believe these: proofs/Enclosed.antt has that the gain lies between, proofs/WithGain.antt that the bounds are right.
use Rattle.std.specs.Prelude.{ℕ, ◌+◌, ◌*◌, ◌-◌, ◌/◌, ◌^◌, min, Bool, not, ◌&&◌, leb}
use Rattle.algebra.specs.Bisection.{bisect}
use Rattle.algebra.specs.Choice.{pick}
use Rattle.cylinder.specs.declared.Cylinder.{Cylinder}
use Rattle.cylinder.specs.Fraction.{Fraction}
use Rattle.cylinder.specs.Cut.{Cut, fraction, root_of}
use Rattle.cylinder.specs.Factor.{Factor, times}
use Rattle.cylinder.specs.WholeCurves.{part2, reduction2, long, tolerance_factor}
use Rattle.cylinder.specs.WholeIdeal.{axial_is_short, axial_cut}
use Rattle.cylinder.specs.Search.{grid, place, Pair, sum_bounds}
use Rattle.pressure.specs.declared.Order.{Order}
use Rattle.pressure.specs.declared.Order.TheVariants.{ToleranceFirst, PressureFirst}

-- n/d rounded up
abbrev pub rounded_up : ℕ → ℕ → ℕ
rounded_up n d = (n + (d - 1)) / d

-- the grid of P^0.38 and of the gain
abbrev pub Z : ℕ
Z = 100000000

-- P^0.38, where P = p r² / (25 E w²)
abbrev pub P38Cut : Cylinder → ℕ → Cut
P38Cut s p = root_of 50 (fraction ((p * s.radius ^ 2) ^ 19) ((25 * s.modulus * s.wall ^ 2) ^ 19))

-- the largest j such that P^0.38 reaches j/Z; it is below 6 Z
unfoldable pub place38 : Cylinder → ℕ → ℕ
unfolding bisect
place38 s p = bisect (λ j. (P38Cut s p).reaches j Z) 30 0 (6 * Z)

-- ten times (S - 0.7), at most 3, at S = i/q: q times that
abbrev pub ramp : ℕ → ℕ → ℕ
ramp i q = min (10 * i - 7 * q) (3 * q)

-- S P^0.38 with its ramp in parts of Z, for k/q ≤ S < (k + 1)/q and j/Z ≤ P^0.38 < (j + 1)/Z: the one is not below it, and the other not above
abbrev pub added_above : ℕ → ℕ → ℕ → ℕ
added_above k q j = rounded_up (rounded_up ((k + 1) * (j + 1)) q * ramp (k + 1) q) (3 * q)

abbrev pub added_below : ℕ → ℕ → ℕ → ℕ
added_below k q j = (k * j / q) * ramp k q / (3 * q)

-- 1 + 1.2 t/Z
abbrev pub gamma : ℕ → Fraction
gamma t = record { num = 5 * Z + 6 * t; den = 5 * Z }

-- σx over the larger gain
abbrev pub lessened : Fraction → ℕ → ℕ → ℕ → Fraction
lessened σ k q j = record { num = σ.num * (5 * Z); den = σ.den * (5 * Z + 6 * added_above k q j) }

-- the test of the gain for a left side of a/b, at κ = n/m
abbrev pub fits : ℕ → ℕ → ℕ → ℕ → Bool
fits a b n m = leb ((4 * a * m + b * n) ^ 2 + 3 * (b * n) ^ 2) ((2 * b * m) ^ 2)

-- κ2 with its tolerance, at an excess of e thousandths over the permitted imperfection
abbrev pub reduced : Cut → ℕ → Factor
reduced c e = times (reduction2 (part2 c)) (tolerance_factor (long c) e)

-- the test at κ⁺, from k/q and the larger gain, and at κ⁻, from (k + 1)/q and the smaller one
abbrev pub fits_above : Cylinder → ℕ → ℕ → ℕ → ℕ → ℕ → Bool
fits_above s p e k q j =
    fits (p * s.radius) (5000 * s.yield_stress * s.wall) ((reduced (axial_cut s) e).num k q * (5 * Z + 6 * added_above k q j)) ((reduced (axial_cut s) e).den k q * (5 * Z))

abbrev pub fits_below : Cylinder → ℕ → ℕ → ℕ → ℕ → ℕ → Bool
fits_below s p e k q j =
    fits (p * s.radius) (5000 * s.yield_stress * s.wall) ((reduced (axial_cut s) e).num (k + 1) q * (5 * Z + 6 * added_below k q j))
    ((reduced (axial_cut s) e).den (k + 1) q * (5 * Z))

-- ---- L and U

-- the pressure acts
abbrev pub acting : Cylinder → ℕ → Bool
acting s p = leb 1 p && (axial_is_short s && not ((axial_cut s).within 7 10))

-- one for a stress above 0, since the gain is not known exactly
abbrev pub extra : Fraction → ℕ
extra σ = min 1 σ.num

-- with the gain where κ⁺ fits; where only κ⁻ does, L with it and U without; else without
abbrev pub chosen : Bool → Bool → Bool → Pair → Pair → Pair
chosen acts above below plain gained = pick acts (pick above gained (pick below (record { low = gained.low; high = plain.high }) plain)) plain

-- the imperfections, in thousandths, at which the test reads κ
abbrev pub tested_at : Order → Cylinder → ℕ
tested_at ToleranceFirst s = s.imperfection
tested_at PressureFirst s = 1000

-- the imperfections of the test are i thousandths
unfoldable pub line_bounds : Cylinder → ℕ → ℕ → Fraction → Fraction → Fraction → Pair
unfolding grid place place38 sum_bounds
line_bounds s p i σx σφ τ =
    let q : ℕ = grid (axial_cut s) in
    let k : ℕ = place (axial_cut s) q in
    let j : ℕ = place38 s p in
    chosen (acting s p) (fits_above s p (i - 1000) k q j) (fits_below s p (i - 1000) k q j) (sum_bounds 0 s σx σφ τ)
    (sum_bounds (extra σx) s (lessened σx k q j) σφ τ)

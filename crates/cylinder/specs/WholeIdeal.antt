-- The length tests of Ideal and the slendernesses of Resistance in whole numbers, with the constants multiplied together.
-- Nobody has to believe this: proofs/Agree.antt has that they are the same tests.
use Rattle.std.specs.Prelude.{ℕ, ◌+◌, ◌*◌, ◌^◌, Bool, leb, eqb}
use Rattle.cylinder.specs.Cut.{Cut, fraction, root_of, over_sum, over_difference, smaller, root_at_most, root_at_least}
use Rattle.algebra.specs.Choice.{pick}
use Rattle.cylinder.specs.declared.Cylinder.{Cylinder}

-- η of table 1
abbrev pub eta : ℕ → ℕ
eta edges = pick (eqb edges 11) 6 (pick (eqb edges 12) 3 1)

-- four times Cφ of table 2
abbrev pub ring_edges : ℕ → ℕ
ring_edges edges = pick (eqb edges 11) 6 (pick (eqb edges 12) 5 4)

abbrev pub axial_is_short : Cylinder → Bool
axial_is_short s = leb (s.length ^ 2 * s.wall) (50 * s.radius ^ 3)

abbrev pub ring_is_short : Cylinder → Bool
ring_is_short s = leb (800 * s.length ^ 2 * s.wall) (26569 * ring_edges s.edges ^ 2 * s.radius ^ 3)

abbrev pub shear_is_short : Cylinder → Bool
shear_is_short s = leb (s.length ^ 2 * s.wall) (15138 * s.radius ^ 3)

-- S² is fy over the ideal stress
abbrev pub axial_short_cut : Cylinder → Cut
axial_short_cut s =
    root_of 2
    (fraction (16000000 * s.radius * s.length ^ 2 * s.yield_stress)
    (121 * s.modulus * s.wall * (400 * s.length ^ 2 + 3 * s.radius * s.wall)))

-- Cx = (10 η + 2 - 4 (l/r) √(t/r)) / (10 η), but at least 6/10: S² for each
abbrev pub axial_bent : Cylinder → Cut
axial_bent s =
    over_difference (400000 * eta s.edges * s.radius ^ 2 * s.yield_stress) ((10 * eta s.edges + 2) * s.radius * (121 * s.modulus * s.wall))
    (4 * s.length * (121 * s.modulus * s.wall)) s.wall (200 * s.radius)

abbrev pub axial_floor : Cylinder → Cut
axial_floor s = fraction (400000 * s.radius * s.yield_stress) (6 * (121 * s.modulus * s.wall))

abbrev pub axial_long_cut : Cylinder → Cut
axial_long_cut s = root_of 2 (smaller (axial_bent s) (axial_floor s))

abbrev pub axial_cut : Cylinder → Cut
axial_cut s = pick (axial_is_short s) (axial_short_cut s) (axial_long_cut s)

abbrev pub ring_short_cut : Cylinder → Cut
ring_short_cut s =
    let stress : ℕ = 23 * ring_edges s.edges * s.modulus * s.wall in
    let per : ℕ = 20000 * s.length * s.yield_stress in
    record {
      reaches = λ p q. root_at_most (stress * p ^ 2) s.wall (200 * s.radius) (per * q ^ 2);
      within = λ p q. root_at_least (stress * p ^ 2) s.wall (200 * s.radius) (per * q ^ 2);
    }

abbrev pub ring_long_cut : Cylinder → Cut
ring_long_cut s =
    root_of 2
    (fraction (6400000 * s.radius ^ 2 * s.length ^ 4 * s.yield_stress)
    (s.modulus * (44 * s.wall ^ 2 * s.length ^ 4 + 50750 * ring_edges s.edges ^ 4 * s.radius ^ 6)))

abbrev pub ring_cut : Cylinder → Cut
ring_cut s = pick (ring_is_short s) (ring_short_cut s) (ring_long_cut s)

-- S⁴ is fy² over three times the ideal stress's square
abbrev pub shear_short_cut : Cylinder → Cut
shear_short_cut s =
    root_of 4
    (over_sum (25600000000 * s.length ^ 4 * s.radius * s.yield_stress ^ 2) (1134 * s.modulus ^ 2 * s.wall ^ 4 * s.radius)
    (1080000 * s.modulus ^ 2 * s.length ^ 3 * s.wall ^ 2) s.wall (200 * s.radius))

abbrev pub shear_long_cut : Cylinder → Cut
shear_long_cut s = root_of 4 (fraction (128000000 * s.radius ^ 3 * s.yield_stress ^ 2) (3 * s.modulus ^ 2 * s.wall ^ 3))

abbrev pub shear_cut : Cylinder → Cut
shear_cut s = pick (shear_is_short s) (shear_short_cut s) (shear_long_cut s)

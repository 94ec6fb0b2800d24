-- SCOPE 3: DIN 18800-4, section 4.2. Stresses in N/mm².
use Rattle.std.specs.Prelude.{Bool, eqb}
use Rattle.cylinder.specs.declared.Cylinder.{Cylinder}
use Rattle.cylinder.specs.Fraction.{Fraction, ◌//◌, whole, tenths, hundredths, thousandths, ◌⊕◌, ◌⊗◌, ◌⊘◌, ◌↑◌, ◌at_most◌}
use Rattle.cylinder.specs.Number.{Number, exactly, times_root, plus_root, minus_root, scaled, larger}
use Rattle.algebra.specs.Choice.{pick}

-- r, t, l in mm, E and fy in N/mm². The shell's wall is in 200ths of a mm (decision 27); it is the effective one (decision 56).
abbrev pub r : Cylinder → Fraction
r s = whole s.radius

abbrev pub t : Cylinder → Fraction
t s = s.wall // 200

abbrev pub l : Cylinder → Fraction
l s = whole s.length

abbrev pub E : Cylinder → Fraction
E s = whole s.modulus

abbrev pub fy : Cylinder → Fraction
fy s = whole s.yield_stress

abbrev pub r/t : Cylinder → Fraction
r/t s = r s ⊘ t s

abbrev pub t/r : Cylinder → Fraction
t/r s = t s ⊘ r s

abbrev pub r/l : Cylinder → Fraction
r/l s = r s ⊘ l s

abbrev pub l/r : Cylinder → Fraction
l/r s = l s ⊘ r s

-- element 408, table 1: 6, 3, 1 for edges 11, 12, 22
abbrev pub η : Cylinder → Fraction
η s = pick (eqb s.edges 11) (whole 6) (pick (eqb s.edges 12) (whole 3) (whole 1))

-- element 412, table 2: 1.5, 1.25, 1 for edges 11, 12, 22. Decision 4: Cφ* is not used.
abbrev pub Cφ : Cylinder → Fraction
Cφ s = pick (eqb s.edges 11) (tenths 1_5) (pick (eqb s.edges 12) (hundredths 1_25) (whole 1))

-- ---- axial, elements 406 to 408

-- (27): l/r ≤ 0.5 √(r/t), squared
abbrev pub axial_short : Cylinder → Bool
axial_short s = l/r s ↑ 2 at_most tenths 0_5 ↑ 2 ⊗ r/t s

-- (28): Cx = 1 + 1.5 (r/l)² (t/r)
abbrev pub short_cx : Cylinder → Number
short_cx s = exactly (whole 1 ⊕ tenths 1_5 ⊗ r/l s ↑ 2 ⊗ t/r s)

-- (30): Cx = 1 - (0.4 (l/r) √(t/r) - 0.2)/η, which is (1 + 0.2/η) - (0.4 (l/r)/η) √(t/r), but at least 0.6.
-- Decision 5: no share of bending, so not (30a).
abbrev pub long_cx : Cylinder → Number
long_cx s = larger (minus_root (whole 1 ⊕ tenths 0_2 ⊘ η s) (tenths 0_4 ⊗ l/r s ⊘ η s) (t/r s)) (exactly (tenths 0_6))

abbrev pub Cx : Cylinder → Number
Cx s = pick (axial_short s) (short_cx s) (long_cx s)

-- (26): 0.605 Cx E (t/r)
abbrev pub ideal_axial : Cylinder → Number
ideal_axial s = scaled (thousandths 0_605 ⊗ E s ⊗ t/r s) (Cx s)

-- ---- ring, elements 412 and 413

-- (33): l/r ≤ 1.63 Cφ √(r/t), squared
abbrev pub ring_short : Cylinder → Bool
ring_short s = l/r s ↑ 2 at_most (hundredths 1_63 ⊗ Cφ s) ↑ 2 ⊗ r/t s

-- (34): 0.92 Cφ E (r/l) (t/r)^1.5, where (t/r)^1.5 is (t/r) √(t/r)
abbrev pub ideal_ring_short : Cylinder → Number
ideal_ring_short s = times_root (hundredths 0_92 ⊗ Cφ s ⊗ E s ⊗ r/l s ⊗ t/r s) (t/r s)

-- (36): E (t/r)² (0.275 + 2.03 (Cφ/((l/r) √(t/r)))⁴); the fourth power of √(t/r) is (t/r)². Decision 1: the standard prints √(r/t).
abbrev pub ideal_ring_long : Cylinder → Number
ideal_ring_long s = exactly (E s ⊗ t/r s ↑ 2 ⊗ (thousandths 0_275 ⊕ hundredths 2_03 ⊗ (Cφ s ↑ 4 ⊘ (l/r s ↑ 4 ⊗ t/r s ↑ 2))))

abbrev pub ideal_ring : Cylinder → Number
ideal_ring s = pick (ring_short s) (ideal_ring_short s) (ideal_ring_long s)

-- ---- shear, elements 416 and 417: the square of the stress, since √√(t/r) is in the stress itself

-- (38): l/r ≤ 8.7 √(r/t), squared
abbrev pub shear_short : Cylinder → Bool
shear_short s = l/r s ↑ 2 at_most tenths 8_7 ↑ 2 ⊗ r/t s

-- (39), (40): 0.75 Cτ E (r/l)^0.5 (t/r)^1.25 with Cτ² = 1 + 42 (r/l)³ (t/r)^1.5.
-- The square is 0.75² Cτ² E² (r/l) (t/r)² √(t/r), which is 0.75² E² (r/l) (t/r)² times 42 (r/l)³ (t/r)² + 1 √(t/r).
-- Decision 2: the standard prescribes Cτ = 1 and permits (40).
abbrev pub ideal_shear_short_square : Cylinder → Number
ideal_shear_short_square s =
    scaled (hundredths 0_75 ↑ 2 ⊗ E s ↑ 2 ⊗ r/l s ⊗ t/r s ↑ 2) (plus_root (whole 42 ⊗ r/l s ↑ 3 ⊗ t/r s ↑ 2) (whole 1) (t/r s))

-- (42): 0.25 E (t/r)^1.5
abbrev pub ideal_shear_long_square : Cylinder → Number
ideal_shear_long_square s = exactly (hundredths 0_25 ↑ 2 ⊗ E s ↑ 2 ⊗ t/r s ↑ 3)

abbrev pub ideal_shear_square : Cylinder → Number
ideal_shear_square s = pick (shear_short s) (ideal_shear_short_square s) (ideal_shear_long_square s)

-- Products of a cylinder's numbers, bounded. Assumes nothing.
use Prim.Native.Nat.{ℕ, ◌*◌, ◌^◌, ◌≤◌}
use mathlib.Core.Path.{◌≡◌, sym}
use mathlib.Core.Bool.{true}
use lib.Dec.{leb, eqb}
use borrow.Author.Tests.{le-leb}
use Rattle.algebra.proofs.Powers.{pow_two, pow_three}
use Rattle.cylinder.specs.WholeIdeal.{ring_is_short, ring_edges}
use native.Mathlib.Nat.{mul-le-mul, mul_assoc}
use native.Mathlib.Omega.{arith}
use Rattle.cylinder.specs.declared.ValidCylinder.{ValidCylinder}
use Rattle.cylinder.proofs.Limits.{edges_four}

pub length_two : (s : ValidCylinder) → s.cylinder.length * s.cylinder.length ≤ 40000000000
length_two s = mul-le-mul s.in_limits.length_most s.in_limits.length_most

pub length_wall : (s : ValidCylinder) → s.cylinder.length * s.cylinder.length * s.cylinder.wall ≤ 800000000000000
length_wall s = mul-le-mul (length_two s) s.in_limits.wall_most

pub radius_two : (s : ValidCylinder) → s.cylinder.radius * s.cylinder.radius ≤ 2500000000
radius_two s = mul-le-mul s.in_limits.radius_most s.in_limits.radius_most

pub radius_three : (s : ValidCylinder) → s.cylinder.radius * s.cylinder.radius * s.cylinder.radius ≤ 125000000000000
radius_three s = mul-le-mul (radius_two s) s.in_limits.radius_most

-- the tests of length, as the code multiplies
pub length_test : (k l w r : ℕ) → leb (l * l * w) (k * r * r * r) ≡ leb (l ^ 2 * w) (k * r ^ 3)
length_test k l w r = simp (pow_two, pow_three, mul_assoc)

pub ring_test_lem : (c e l w r : ℕ) → c ≡ e → leb (800 * l * l * w) (26569 * c * c * r * r * r) ≡ leb (800 * l ^ 2 * w) (26569 * e ^ 2 * r ^ 3)
ring_test_lem c e l w r h = rw h (simp (pow_two, pow_three, mul_assoc))

-- from 11,500 on, with c from 4
pub wide_enough : (c r x : ℕ) → 4 ≤ c → 11500 ≤ r → x ≤ 800000000000000 → 800 * x ≤ 26569 * (c * c) * (r * r * r)
wide_enough c r x four from h = omega (arith, mul-le-mul (mul-le-mul four four) (mul-le-mul (mul-le-mul from from) from))

pub short_from : (s : ValidCylinder) → 11500 ≤ s.cylinder.radius → true ≡ ring_is_short s.cylinder
short_from s from = sym (le-leb (800 * s.cylinder.length ^ 2 * s.cylinder.wall) (26569 * ring_edges s.cylinder.edges ^ 2 * s.cylinder.radius ^ 3) enough)
  where
    enough : 800 * s.cylinder.length ^ 2 * s.cylinder.wall ≤ 26569 * ring_edges s.cylinder.edges ^ 2 * s.cylinder.radius ^ 3
    enough =
        simp (pow_two, pow_three)
        (omega (arith, wide_enough (ring_edges s.cylinder.edges) s.cylinder.radius (s.cylinder.length * s.cylinder.length * s.cylinder.wall) (edges_four (eqb s.cylinder.edges 11) (eqb s.cylinder.edges 12)) from (length_wall s)))

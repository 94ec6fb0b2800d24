-- What the theorems need of the limits, and that each slenderness is a number then.
use mathlib.Core.Bool.{Bool, true, false}
use Prim.Native.Nat.{◌*◌, ◌≤◌, ◌<◌}
use native.Mathlib.Nat.{mul-pos, le_trans, one-le-pow}
use native.Mathlib.Omega.{arith}
use lib.Dec.{eqb, lit≤, lit<}
use Rattle.cylinder.specs.declared.Cylinder.{Cylinder}
use Rattle.cylinder.specs.InLimits.{InLimits}
use Rattle.algebra.specs.Choice.{pick}
use Rattle.cylinder.specs.WholeIdeal.{ring_edges, axial_is_short, ring_is_short, shear_is_short, axial_short_cut, axial_long_cut, axial_cut, ring_short_cut, ring_long_cut, ring_cut, shear_short_cut, shear_long_cut, shear_cut}
use Rattle.cylinder.proofs.Lawful.{Lawful, fraction_lawful, root_lawful, rooted_lawful, sum_lawful, difference_lawful, smaller_lawful, pick_lawful}

-- less than the limits, so that later ones may be wider
pub record Sound (s : Cylinder) : Type 0 where
  pub radius : 0 < s.radius
  pub wall : 0 < s.wall
  pub length : 0 < s.length
  pub modulus : 60000 ≤ s.modulus
  pub yield : 0 < s.yield_stress
  pub soft : s.yield_stress ≤ 700
  pub imperfect : s.imperfection ≤ 2000
  pub thick : 2 * s.radius ≤ 25 * s.wall
  pub stout : s.length ≤ 50 * s.radius
  pub modulus_most : s.modulus ≤ 220000
  pub yield_least : 100 ≤ s.yield_stress
  pub not_thick : s.wall ≤ 10 * s.radius
  pub not_short : s.radius ≤ 20 * s.length

-- a shell within the limits of SCOPE 2 is sound
pub sound : (s : Cylinder) → InLimits s → Sound s
sound s w =
    record {
      radius = omega arith;
      wall = omega arith;
      length = omega arith;
      modulus = omega arith;
      yield = omega arith;
      soft = omega arith;
      imperfect = omega arith;
      thick = omega arith;
      stout = omega arith;
      modulus_most = omega arith;
      yield_least = omega arith;
      not_thick = omega arith;
      not_short = omega arith;
    }

-- four times Cφ, and η
pub edges_four : (a b : Bool) → 4 ≤ pick a 6 (pick b 5 4)
edges_four true b = lit≤ tt
edges_four false true = lit≤ tt
edges_four false false = lit≤ tt

pub eta_pos : (a b : Bool) → 0 < pick a 6 (pick b 3 1)
eta_pos true b = lit< tt
eta_pos false true = lit< tt
eta_pos false false = lit< tt

abbrev pos_modulus : (s : Cylinder) → Sound s → 0 < s.modulus
pos_modulus s ok = omega arith

-- each slenderness is a number
pub axial_lawful : (s : Cylinder) → Sound s → Lawful (axial_cut s)
axial_lawful s ok =
    pick_lawful (axial_is_short s) (axial_short_cut s) (axial_long_cut s)
    (root_lawful 2 _ (omega arith)
    (fraction_lawful _ _ (mul-pos load (omega (arith, one-le-pow 2 s.length ok.length)))))
    (root_lawful 2 _ (omega arith)
    (smaller_lawful _ _
    (difference_lawful _ _ _ _ _
    (mul-pos (mul-pos (mul-pos {m = 400000} (lit< tt) (eta_pos (eqb s.edges 11) (eqb s.edges 12))) (one-le-pow 2 s.radius ok.radius)) ok.yield)
    (mul-pos {m = 200} (lit< tt) ok.radius))
    (fraction_lawful _ _ (mul-pos {m = 6} (lit< tt) load))))
  where
    load : 0 < 121 * s.modulus * s.wall
    load = mul-pos (mul-pos {m = 121} (lit< tt) (pos_modulus s ok)) ok.wall

pub ring_lawful : (s : Cylinder) → Sound s → Lawful (ring_cut s)
ring_lawful s ok =
    pick_lawful (ring_is_short s) (ring_short_cut s) (ring_long_cut s)
    (rooted_lawful (23 * ring_edges s.edges * s.modulus * s.wall) (20000 * s.length * s.yield_stress) s.wall (200 * s.radius)
    (mul-pos (mul-pos (mul-pos {m = 23} (lit< tt) (le_trans (lit< tt) (edges_four (eqb s.edges 11) (eqb s.edges 12)))) (pos_modulus s ok)) ok.wall) ok.wall)
    (root_lawful 2 _ (omega arith)
    (fraction_lawful _ _
    (mul-pos (pos_modulus s ok)
    (omega (arith, mul-pos (mul-pos {m = 44} (lit< tt) (one-le-pow 2 s.wall ok.wall)) (one-le-pow 4 s.length ok.length))))))

pub shear_lawful : (s : Cylinder) → Sound s → Lawful (shear_cut s)
shear_lawful s ok =
    pick_lawful (shear_is_short s) (shear_short_cut s) (shear_long_cut s)
    (root_lawful 4 _ (omega arith)
    (sum_lawful _ _ _ _ _
    (mul-pos (mul-pos (mul-pos {m = 25600000000} (lit< tt) (one-le-pow 4 s.length ok.length)) ok.radius) (one-le-pow 2 s.yield_stress ok.yield))
    (mul-pos (mul-pos (mul-pos {m = 1080000} (lit< tt) (one-le-pow 2 s.modulus (pos_modulus s ok))) (one-le-pow 3 s.length ok.length)) (one-le-pow 2 s.wall ok.wall))
    ok.wall (mul-pos {m = 200} (lit< tt) ok.radius)))
    (root_lawful 4 _ (omega arith)
    (fraction_lawful _ _ (mul-pos (mul-pos {m = 3} (lit< tt) (one-le-pow 2 s.modulus (pos_modulus s ok))) (one-le-pow 3 s.wall ok.wall))))

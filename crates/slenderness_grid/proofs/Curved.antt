-- The branches whose ideal stress is a sum with a root are numbers, and so is the one where Cx is at its least. Assumes nothing.
use Prim.Native.Nat.{◌<◌}
use native.Mathlib.Nat.{mul-pos, one-le-pow}
use native.Mathlib.Omega.{arith}
use lib.Dec.{eqb, lit<}
use Rattle.cylinder.specs.declared.ValidCylinder.{ValidCylinder}
use Rattle.cylinder.specs.Cut.{root_of}
use Rattle.cylinder.specs.WholeIdeal.{axial_bent, axial_floor, shear_short_cut}
use Rattle.cylinder.proofs.Lawful.{Lawful, fraction_lawful, root_lawful, sum_lawful, difference_lawful}
use Rattle.cylinder.proofs.Limits.{eta_pos}

module _ (s : ValidCylinder) where
  radius_pos : 0 < s.cylinder.radius
  radius_pos = omega (arith, s.in_limits)

  wall_pos : 0 < s.cylinder.wall
  wall_pos = omega (arith, s.in_limits)

  length_pos : 0 < s.cylinder.length
  length_pos = omega (arith, s.in_limits)

  modulus_pos : 0 < s.cylinder.modulus
  modulus_pos = omega (arith, s.in_limits)

  yield_pos : 0 < s.cylinder.yield_stress
  yield_pos = omega (arith, s.in_limits)

  pub floor_lawful : Lawful (root_of 2 (axial_floor s.cylinder))
  floor_lawful = root_lawful 2 _ (omega arith) (fraction_lawful _ _ (mul-pos {m = 6} (lit< tt) (mul-pos (mul-pos {m = 121} (lit< tt) modulus_pos) wall_pos)))

  pub bent_lawful : Lawful (root_of 2 (axial_bent s.cylinder))
  bent_lawful =
      root_lawful 2 _ (omega arith)
      (difference_lawful _ _ _ _ _
      (mul-pos (mul-pos (mul-pos {m = 400000} (lit< tt) (eta_pos (eqb s.cylinder.edges 11) (eqb s.cylinder.edges 12))) (one-le-pow 2 s.cylinder.radius radius_pos)) yield_pos)
      (mul-pos {m = 200} (lit< tt) radius_pos))

  pub shear_lawful : Lawful (shear_short_cut s.cylinder)
  shear_lawful =
      root_lawful 4 _ (omega arith)
      (sum_lawful _ _ _ _ _
      (mul-pos (mul-pos (mul-pos {m = 25600000000} (lit< tt) (one-le-pow 4 s.cylinder.length length_pos)) radius_pos) (one-le-pow 2 s.cylinder.yield_stress yield_pos))
      (mul-pos (mul-pos (mul-pos {m = 1080000} (lit< tt) (one-le-pow 2 s.cylinder.modulus modulus_pos)) (one-le-pow 3 s.cylinder.length length_pos)) (one-le-pow 2 s.cylinder.wall wall_pos))
      wall_pos (mul-pos {m = 200} (lit< tt) radius_pos))

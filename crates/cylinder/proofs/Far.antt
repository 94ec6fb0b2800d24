-- Within the limits each slenderness is below 536.
use mathlib.Core.Path.{◌≡◌}
use mathlib.Core.Bool.{Bool, true, false}
use Prim.Native.Nat.{ℕ, ◌+◌, ◌*◌, ◌-◌, ◌^◌, ◌≤◌, ◌<◌}
use native.Mathlib.Nat.{mul-pos, mul-le-mul, mul-le-mul_left, mul-le-mul_right, mul-lt-mul_of_pos_left, le_trans, sub-le, one-le-pow}
use native.Mathlib.Omega.{arith}
use lib.Dec.{eqb, lit<}
use borrow.Author.Tests.{lt-leb}
use Rattle.cylinder.specs.declared.Cylinder.{Cylinder}
use Rattle.algebra.specs.Choice.{pick}
use Rattle.cylinder.specs.Cut.{Cut}
use Rattle.cylinder.specs.WholeIdeal.{ring_edges, axial_is_short, ring_is_short, shear_is_short, axial_short_cut, axial_bent, axial_long_cut, axial_cut, ring_short_cut, ring_long_cut, ring_cut, shear_short_cut, shear_long_cut, shear_cut}
use Rattle.algebra.proofs.Powers.{pow_two, pow_three, pow_four}
use Rattle.algebra.proofs.Tests.{missed_right}
use Rattle.cylinder.proofs.Limits.{Sound, edges_four}

pick_far : (b : Bool) (s t : Cut) → s.reaches 536 1 ≡ false → t.reaches 536 1 ≡ false → (pick b s t).reaches 536 1 ≡ false
pick_far true s t h g = h
pick_far false s t h g = g

squares : (X Y a b Z r w : ℕ) → X ≤ a * Z → b * Z ≤ Y → 2 * r ≤ 25 * w → a * a * 2500 < b * b → 0 < Z → 0 < w → X ^ 2 * (200 * r) < Y ^ 2 * w
squares X Y a b Z r w x y thick lt zpos wpos =
    simp pow_two
    (omega (
      arith,
      mul-le-mul (mul-le-mul x x) thick,
      mul-le-mul_right w (mul-le-mul y y),
      mul-lt-mul_of_pos_left lt (mul-pos (mul-pos zpos zpos) wpos),
    ))

module _ (s : Cylinder) (ok : Sound s) where
  -- below 7 even
  axial_short_less : 16000000 * s.radius * s.length ^ 2 * s.yield_stress * 1 ^ 2 < 7 ^ 2 * (121 * s.modulus * s.wall * (400 * s.length ^ 2 + 3 * s.radius * s.wall))
  axial_short_less =
      omega (
        arith,
        mul-le-mul_left (s.length ^ 2) (mul-le-mul ok.thick ok.soft),
        mul-le-mul_left (s.wall * s.length ^ 2) ok.modulus,
        mul-pos ok.wall (one-le-pow 2 s.length ok.length),
      )

  pub axial_short_7 : (axial_short_cut s).reaches 7 1 ≡ false
  axial_short_7 = lt-leb _ _ axial_short_less

  axial_short_far : (axial_short_cut s).reaches 536 1 ≡ false
  axial_short_far = lt-leb _ _ (omega (arith, axial_short_less))

  axial_long_far : (axial_long_cut s).reaches 536 1 ≡ false
  axial_long_far = missed_right ((axial_bent s).reaches (536 ^ 2) (1 ^ 2)) _ (lt-leb _ _ less)
    where
      less : 400000 * s.radius * s.yield_stress * 1 ^ 2 < 536 ^ 2 * (6 * (121 * s.modulus * s.wall))
      less = omega (arith, mul-le-mul ok.thick ok.soft, mul-le-mul_left s.wall ok.modulus, ok.wall)

  ring_short_far : (ring_short_cut s).reaches 536 1 ≡ false
  ring_short_far =
      lt-leb _ _
      (squares (20000 * s.length * s.yield_stress * 1 ^ 2) (23 * ring_edges s.edges * s.modulus * s.wall * 536 ^ 2) 8750000000 (23 * 240000 * 536 ^ 2) s.wall s.radius
      s.wall (omega (arith, mul-le-mul long ok.soft)) (omega (arith, mul-le-mul_right s.wall (mul-le-mul (edges_four (eqb s.edges 11) (eqb s.edges 12)) ok.modulus)))
      ok.thick (lit< tt) ok.wall ok.wall)
    where
      long : s.length ≤ 625 * s.wall
      long = omega (arith, ok.stout, ok.thick)

  ring_long_far : (ring_long_cut s).reaches 536 1 ≡ false
  ring_long_far = lt-leb _ _ less
    where
      less : 6400000 * s.radius ^ 2 * s.length ^ 4 * s.yield_stress * 1 ^ 2
          < 536 ^ 2 * (s.modulus * (44 * s.wall ^ 2 * s.length ^ 4 + 50750 * ring_edges s.edges ^ 4 * s.radius ^ 6))
      less =
          simp pow_two
          (omega (
            arith,
            mul-le-mul_left (s.length ^ 4) (mul-le-mul (mul-le-mul ok.thick ok.thick) ok.soft),
            mul-le-mul_left (s.wall * s.wall * s.length ^ 4) ok.modulus,
            mul-pos (mul-pos ok.wall ok.wall) (one-le-pow 4 s.length ok.length),
          ))

  shear_short_far : (shear_short_cut s).reaches 536 1 ≡ false
  shear_short_far =
      lt-leb _ _
      (squares (D * 1 ^ 4 - C * 536 ^ 4) (1080000 * s.modulus ^ 2 * s.length ^ 3 * s.wall ^ 2 * 536 ^ 4) 98000000000000000000 (1080000 * 3600000000 * 536 ^ 4)
      (s.length ^ 3 * s.wall ^ 2) s.radius s.wall (le_trans (sub-le (D * 1 ^ 4) (C * 536 ^ 4)) up) down ok.thick (lit< tt)
      (mul-pos (one-le-pow 3 s.length ok.length) (one-le-pow 2 s.wall ok.wall)) ok.wall)
    where
      D : ℕ
      D = 25600000000 * s.length ^ 4 * s.radius * s.yield_stress ^ 2

      C : ℕ
      C = 1134 * s.modulus ^ 2 * s.wall ^ 4 * s.radius

      long : s.length ≤ 625 * s.wall
      long = omega (arith, ok.stout, ok.thick)

      up : 25600000000 * s.length ^ 4 * s.radius * s.yield_stress ^ 2 * 1 ^ 4 ≤ 98000000000000000000 * (s.length ^ 3 * s.wall ^ 2)
      up =
          simp (pow_two, pow_three, pow_four)
          (omega (arith, mul-le-mul_left (s.length * s.length * s.length) (mul-le-mul (mul-le-mul long ok.thick) (mul-le-mul ok.soft ok.soft))))

      down : 1080000 * 3600000000 * 536 ^ 4 * (s.length ^ 3 * s.wall ^ 2) ≤ 1080000 * s.modulus ^ 2 * s.length ^ 3 * s.wall ^ 2 * 536 ^ 4
      down = simp (pow_two) (omega (arith, mul-le-mul_left (s.length ^ 3 * (s.wall * s.wall)) (mul-le-mul ok.modulus ok.modulus)))

  shear_long_far : (shear_long_cut s).reaches 536 1 ≡ false
  shear_long_far = lt-leb _ _ less
    where
      less : 128000000 * s.radius ^ 3 * s.yield_stress ^ 2 * 1 ^ 4 < 536 ^ 4 * (3 * s.modulus ^ 2 * s.wall ^ 3)
      less =
          simp (pow_two, pow_three)
          (omega (
            arith,
            mul-le-mul (mul-le-mul (mul-le-mul ok.thick ok.thick) ok.thick) (mul-le-mul ok.soft ok.soft),
            mul-le-mul_left (s.wall * s.wall * s.wall) (mul-le-mul ok.modulus ok.modulus),
            mul-pos (mul-pos ok.wall ok.wall) ok.wall,
          ))

  -- so the search for k may end at 2³² on either grid
  pub axial_far : (axial_cut s).reaches 536 1 ≡ false
  axial_far = pick_far (axial_is_short s) (axial_short_cut s) (axial_long_cut s) axial_short_far axial_long_far

  pub ring_far : (ring_cut s).reaches 536 1 ≡ false
  ring_far = pick_far (ring_is_short s) (ring_short_cut s) (ring_long_cut s) ring_short_far ring_long_far

  pub shear_far : (shear_cut s).reaches 536 1 ≡ false
  shear_far = pick_far (shear_is_short s) (shear_short_cut s) (shear_long_cut s) shear_short_far shear_long_far

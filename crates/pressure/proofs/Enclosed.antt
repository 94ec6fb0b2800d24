-- The gain lies between two fractions that differ by less than a part in 2,600,000.
use mathlib.Core.Path.{◌≡◌, refl}
use mathlib.Core.Bool.{Bool, true, false}
use mathlib.Core.Logic.{◌⊎◌, inl, inr}
use Prim.Native.Nat.{ℕ, ◌+◌, ◌*◌, ◌-◌, ◌/◌, ◌≤◌, ◌<◌}
use native.Mathlib.Nat.{mul-le-mul, mul-le-mul_left, mul-le-mul_right, mul-sub, le_of_mul-le-mul_right, lt_of_mul-lt-mul_right, div-mul-le_self, lt-div-mul-add}
use native.Mathlib.Omega.{arith}
use lib.Dec.{leb}
use borrow.Author.Tests.{leb-true, leb-false}
use Rattle.cylinder.specs.Fraction.{Fraction, ◌//◌}
use Rattle.pressure.specs.Gain.{gain}
use Rattle.pressure.specs.WholeGain.{rounded_up, Z, ramp, added_above, added_below, gamma}

-- f ≤ g
abbrev pub AtMost : Fraction → Fraction → Type 0
AtMost f g = f.num * g.den ≤ g.num * f.den

-- ---- rounding up

pub up_over : (n d : ℕ) → 0 < d → n ≤ rounded_up n d * d
up_over n d pos = let lt : n + (d - 1) < (n + (d - 1)) / d * d + d = lt-div-mul-add pos in omega arith

pub up_under : (n d : ℕ) → 0 < d → rounded_up n d * d < n + d
up_under n d pos = omega (arith, div-mul-le_self (n + (d - 1)) d)

-- ---- h z in parts of Z

product_above : (a b c d k q j T : ℕ) → 0 < q → a * q ≤ (k + 1) * b → c * Z ≤ (j + 1) * d → (k + 1) * (j + 1) ≤ T * q → a * c * Z ≤ T * (b * d)
product_above a b c d k q j T pos h z t =
    le_of_mul-le-mul_right {k = q} (omega (arith, mul-le-mul h z, mul-le-mul_right (b * d) t)) pos

product_below : (a b c d k q j T : ℕ) → 0 < q → k * b ≤ a * q → j * d ≤ c * Z → T * q ≤ k * j → T * (b * d) ≤ a * c * Z
product_below a b c d k q j T pos h z t =
    le_of_mul-le-mul_right {k = q} (omega (arith, mul-le-mul h z, mul-le-mul_right (b * d) t)) pos

-- with the ramp, which is 10 S - 7 in parts of q
ramp_above : (a b k q M X t ρ T : ℕ) → 0 < q → M ≤ T * X → (a * 10 - 7 * b) * q ≤ ρ * b → T * ρ ≤ t * (3 * q) → M * (a * 10 - 7 * b) ≤ 3 * t * (X * b)
ramp_above a b k q M X t ρ T pos m r e =
    le_of_mul-le-mul_right {k = q} (omega (arith, mul-le-mul m r, mul-le-mul_right (X * b) e)) pos

ramp_below : (a b k q M X t ρ T : ℕ) → 0 < q → T * X ≤ M → ρ * b ≤ (a * 10 - 7 * b) * q → t * (3 * q) ≤ T * ρ → 3 * t * (X * b) ≤ M * (a * 10 - 7 * b)
ramp_below a b k q M X t ρ T pos m r e =
    le_of_mul-le-mul_right {k = q} (omega (arith, mul-le-mul m r, mul-le-mul_right (X * b) e)) pos

-- put into the formula, where W is 10 a - 7 b
finish_above : (a b c d W t : ℕ) → a * c * Z * W ≤ 3 * t * (b * d * b) →
    (1 * (10 * b * d * (b * 10) * 3) + 12 * a * c * W * 10 * 1) * (5 * Z) ≤ (5 * Z + 6 * t) * (1 * (10 * b * d * (b * 10) * 3))
finish_above a b c d W t h = omega arith

finish_below : (a b c d W t : ℕ) → 3 * t * (b * d * b) ≤ a * c * Z * W →
    (5 * Z + 6 * t) * (1 * (10 * b * d * (b * 10) * 3)) ≤ (1 * (10 * b * d * (b * 10) * 3) + 12 * a * c * W * 10 * 1) * (5 * Z)
finish_below a b c d W t h = omega arith

module _ (k q j : ℕ) (qpos : 0 < q) where
  abbrev T⁺ : ℕ
  T⁺ = rounded_up ((k + 1) * (j + 1)) q

  abbrev T⁻ : ℕ
  T⁻ = k * j / q

  qpos3 : 0 < 3 * q
  qpos3 = omega arith

  above_1 : 3 * q ≤ ramp (k + 1) q → T⁺ ≤ added_above k q j
  above_1 full =
      le_of_mul-le-mul_right {k = 3 * q} (omega (arith, mul-le-mul_left T⁺ full, up_over (T⁺ * ramp (k + 1) q) (3 * q) qpos3)) qpos3

  below_1 : added_below k q j ≤ T⁻
  below_1 =
      let most : ramp k q ≤ 3 * q = omega arith in
      le_of_mul-le-mul_right {k = 3 * q} (omega (arith, mul-le-mul_left T⁻ most, div-mul-le_self (T⁻ * ramp k q) (3 * q))) qpos3

  module _ (a b c d : ℕ) where
    -- h is a/b and z is c/d, not over (k + 1)/q and (j + 1)/Z
    pub gain_above : (f : Bool) → (f ≡ true → q ≤ k) → (f ≡ false → k < q) → a * q ≤ (k + 1) * b → c * Z ≤ (j + 1) * d →
        AtMost (gain f (a // b) (c // d)) (gamma (added_above k q j))
    gain_above true far near h z =
        let full : 3 * q ≤ ramp (k + 1) q = omega (arith, far refl) in
        omega (arith, product_above a b c d k q j T⁺ qpos h z (up_over ((k + 1) * (j + 1)) q qpos), mul-le-mul_right (b * d) (above_1 full))
    gain_above false far near h z =
        let steep : ramp (k + 1) q ≡ 10 * (k + 1) - 7 * q = omega (arith, near refl) in
        let less : (a * 10 - 7 * b) * q ≤ ramp (k + 1) q * b = slope (ramp (k + 1) q) steep in
        finish_above a b c d (a * 10 - 7 * b) (added_above k q j)
        (ramp_above a b k q (a * c * Z) (b * d) (added_above k q j) (ramp (k + 1) q) T⁺ qpos
        (product_above a b c d k q j T⁺ qpos h z (up_over ((k + 1) * (j + 1)) q qpos)) less (up_over (T⁺ * ramp (k + 1) q) (3 * q) qpos3))
      where
        slope : (ρ : ℕ) → ρ ≡ 10 * (k + 1) - 7 * q → (a * 10 - 7 * b) * q ≤ ρ * b
        slope ρ e = rw e (omega (arith, mul-sub q (a * 10) (7 * b), mul-sub b (10 * (k + 1)) (7 * q)))

    -- not below k/q and j/Z
    pub gain_below : (f : Bool) → (f ≡ false → k < q) → k * b ≤ a * q → j * d ≤ c * Z → AtMost (gamma (added_below k q j)) (gain f (a // b) (c // d))
    gain_below true near h z =
        omega (arith, product_below a b c d k q j T⁻ qpos h z (div-mul-le_self (k * j) q), mul-le-mul_right (b * d) below_1)
    gain_below false near h z =
        let less : ramp k q * b ≤ (a * 10 - 7 * b) * q = slope (ramp k q) (omega arith) in
        finish_below a b c d (a * 10 - 7 * b) (added_below k q j)
        (ramp_below a b k q (a * c * Z) (b * d) (added_below k q j) (ramp k q) T⁻ qpos
        (product_below a b c d k q j T⁻ qpos h z (div-mul-le_self (k * j) q)) less (div-mul-le_self (T⁻ * ramp k q) (3 * q)))
      where
        slope : (ρ : ℕ) → ρ ≤ 10 * k - 7 * q → ρ * b ≤ (a * 10 - 7 * b) * q
        slope ρ e = omega (arith, mul-le-mul_right b e, mul-sub q (a * 10) (7 * b), mul-sub b (10 * k) (7 * q))

-- ---- the two are near

-- D is what the product gains from one corner to the other
gap : (k q j T U : ℕ) → T * q < (k + 1) * (j + 1) + q → k * j < U * q + q → (T - U) * q < k + 1 + j + 2 * q
gap k q j T U h g = omega (arith, mul-sub q T U)

far_off : (k q j T U : ℕ) → 8000000 ≤ q → k < 7 * q → 2 * q ≤ k → T * q < (k + 1) * (j + 1) + q → k * j < U * q + q → 15600000 * (T - U) ≤ 5 * Z + 6 * U
far_off k q j T U fine small far h g =
    let D : ℕ = T - U in
    let some : D * q < k + 1 + j + 2 * q = gap k q j T U h g in
    let rest : (D - 9) * 8000000 ≤ (D - 9) * q = mul-le-mul_left (D - 9) fine in
    let more : 2 * j < U + 1 = lt_of_mul-lt-mul_right q (omega (arith, mul-le-mul_right j far)) in
    omega (arith, mul-sub q D 9)

middle : (k q j T U : ℕ) → 200000000 ≤ q → k < 2 * q → j < 6 * Z → T * q < (k + 1) * (j + 1) + q → k * j < U * q + q → T - U < 7
middle k q j T U fine small few h g = lt_of_mul-lt-mul_right q (omega (arith, gap k q j T U h g))

ramped : (k q j T U ρ π t u : ℕ) → 200000000 ≤ q → k < q → j < 6 * Z → T * q < (k + 1) * (j + 1) + q → k * j < U * q + q → U * q ≤ k * j → ρ ≤ π + 10 → ρ ≤ 3 * q →
    π ≤ ρ → t * (3 * q) < T * ρ + 3 * q → U * π < u * (3 * q) + 3 * q → t - u < 19
ramped k q j T U ρ π t u fine small few h g least step most up' e f =
    lt_of_mul-lt-mul_right (3 * q)
    (omega (arith, mul-sub (3 * q) t u, split, mul-le-mul_right (3 * q) D-few, upper, U-few))
  where
    D : ℕ
    D = T - U

    D-few : D ≤ 5
    D-few = let lt : D < 6 = lt_of_mul-lt-mul_right q (omega (arith, gap k q j T U h g)) in omega arith

    U-few : U ≤ j
    U-few = le_of_mul-le-mul_right {k = q} (omega (arith, mul-le-mul_right j small, least)) (omega arith)

    upper : D * ρ ≤ D * (3 * q)
    upper = mul-le-mul_left D most

    -- T ρ - U π ≤ D ρ + 10 U
    split : T * ρ ≤ U * π + D * ρ + 10 * U
    split = let le : T ≤ U + D = omega arith in omega (arith, mul-le-mul_right ρ le, mul-le-mul_left U step)

-- k/q is where S stands on the grid, which is finer below 2
abbrev pub Spot : ℕ → ℕ → Type 0
Spot k q = ((8000000 ≤ q) × (2 * q ≤ k)) ⊎ ((200000000 ≤ q) × (k < 2 * q))

module _ (k q j : ℕ) (qpos : 0 < q) (small : k < 7 * q) (few : j < 6 * Z) where
  pub up_1 : added_above k q j ≤ T⁺ k q j qpos
  up_1 =
      let most : ramp (k + 1) q ≤ 3 * q = omega arith in
      let lt : added_above k q j < T⁺ k q j qpos + 1 =
      lt_of_mul-lt-mul_right (3 * q)
      (omega (arith, up_under (T⁺ k q j qpos * ramp (k + 1) q) (3 * q) (qpos3 k q j qpos), mul-le-mul_left (T⁺ k q j qpos) most)) in
      omega arith

  down_1 : q ≤ k → T⁻ k q j qpos ≤ added_below k q j
  down_1 far =
      let full : 3 * q ≤ ramp k q = omega arith in
      let rest : T⁻ k q j qpos * ramp k q < T⁻ k q j qpos * ramp k q / (3 * q) * (3 * q) + 3 * q = lt-div-mul-add (qpos3 k q j qpos) in
      let lt : T⁻ k q j qpos < added_below k q j + 1 = lt_of_mul-lt-mul_right (3 * q) (omega (arith, mul-le-mul_left (T⁻ k q j qpos) full)) in
      omega arith

  corner : T⁺ k q j qpos * q < (k + 1) * (j + 1) + q
  corner = up_under ((k + 1) * (j + 1)) q qpos

  corner' : k * j < T⁻ k q j qpos * q + q
  corner' = lt-div-mul-add qpos

  pub near : Spot k q → 15600000 * (added_above k q j - added_below k q j) ≤ 5 * Z + 6 * added_below k q j
  near (inl (fine, far)) =
      let down : T⁻ k q j qpos ≤ added_below k q j = down_1 (omega arith) in
      omega (arith, up_1, far_off k q j (T⁺ k q j qpos) (T⁻ k q j qpos) fine small far corner corner')
  near (inr (fine, less)) = go (leb q k) refl
    where
      go : (b : Bool) → leb q k ≡ b → 15600000 * (added_above k q j - added_below k q j) ≤ 5 * Z + 6 * added_below k q j
      go true e =
          let down : T⁻ k q j qpos ≤ added_below k q j = down_1 (leb-true q k e) in
          omega (arith, up_1, middle k q j (T⁺ k q j qpos) (T⁻ k q j qpos) fine less few corner corner')
      go false e =
          omega (
            arith,
            ramped k q j (T⁺ k q j qpos) (T⁻ k q j qpos) (ramp (k + 1) q) (ramp k q) (added_above k q j) (added_below k q j) fine (leb-false q k e) few corner corner'
                (div-mul-le_self (k * j) q) (omega arith) (omega arith) (omega arith) (up_under (T⁺ k q j qpos * ramp (k + 1) q) (3 * q) (qpos3 k q j qpos))
                (lt-div-mul-add (qpos3 k q j qpos)),
          )

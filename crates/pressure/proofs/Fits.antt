-- The test of the gain in whole numbers: 4 A² + 2 A x + x² ≤ 1. It is kept by a smaller x; and what a test says whose two sides are near.
use mathlib.Core.Path.{◌≡◌, refl, sym, ap, ◌∙◌}
use mathlib.Core.Bool.{Bool, true, false}
use mathlib.Core.List.{[], ◌∷◌}
use Prim.Native.Nat.{ℕ, ◌+◌, ◌*◌, ◌-◌, ◌^◌, ◌≤◌, ◌<◌}
use native.Mathlib.Nat.{mul-pos, mul-le-mul, mul-le-mul_left, mul-le-mul_right, mul-sub, le_of_mul-le-mul_right, lt_of_mul-lt-mul_right, mul-lt-mul_of_pos_right, not-le_of_lt}
use native.Mathlib.Omega.{arith}
use lib.Dec.{lit<}
use borrow.Author.Tests.{leb-true, le-leb, lt-leb}
use Rattle.algebra.proofs.Nonlinear.{nl, jobs, done, ◌&◌, ◌&≡◌}
use Rattle.algebra.proofs.Powers.{pow_two}
use Rattle.algebra.proofs.Tests.{clash}
use Rattle.cylinder.specs.Fraction.{Fraction, ◌//◌}
use Rattle.cylinder.proofs.Like.{Like, self, times, per, plus, minus, power, at_most_lem}
use Rattle.pressure.specs.GainTest.{fits, exceeds}
use Rattle.pressure.specs.WholeGain

-- 4 A² + 2 A x + x² ≤ 1, where A = X/W and x = Y/W
abbrev pub Keeps : ℕ → ℕ → ℕ → Type 0
Keeps X Y W = 4 * (X * X) + 2 * (X * Y) + Y * Y ≤ W * W

-- the test is the same however its fractions are written
pub fits_like : {a x : Fraction} {α β n m : ℕ} → Like a α β → Like x n m → fits a x ≡ fits (α // β) (n // m)
fits_like ha hx = at_most_lem (power (plus ha (per hx (self 4 1))) 2) (per (minus (self 1 1) (times (self 75 100) (power hx 2))) (self 4 1))

module _ (α β n m : ℕ) (bpos : 0 < β) (mpos : 0 < m) where
  abbrev D : ℕ
  D = 1 * (100 * m ^ 2) - 75 * n ^ 2 * 1

  -- the difference, times β²
  difference : β * β * D ≡ 100 * (β * m * (β * m)) - 75 * (β * n * (β * n))
  difference = mul-sub (β * β) (1 * (100 * m ^ 2)) (75 * n ^ 2 * 1) ∙ two (simp pow_two (omega arith)) (simp pow_two (omega arith))
    where
      two : β * β * (1 * (100 * m ^ 2)) ≡ 100 * (β * m * (β * m)) → β * β * (75 * n ^ 2 * 1) ≡ 75 * (β * n * (β * n)) →
          β * β * (1 * (100 * m ^ 2)) - β * β * (75 * n ^ 2 * 1) ≡ 100 * (β * m * (β * m)) - 75 * (β * n * (β * n))
      two e f = rw (e, f)

  to_keeps : (K : ℕ) → β * β * D ≡ K → (α * (m * 4) + n * 1 * β) ^ 2 * (1 * (100 * m ^ 2) * 4) ≤ D * 1 * (β * (m * 4)) ^ 2 →
      (4 * (α * m) + β * n) * (4 * (α * m) + β * n) * 400 ≤ 16 * K
  to_keeps K e h = by D e h
    where
      by : (d : ℕ) → β * β * d ≡ K → (α * (m * 4) + n * 1 * β) ^ 2 * (1 * (100 * m ^ 2) * 4) ≤ d * 1 * (β * (m * 4)) ^ 2 →
          (4 * (α * m) + β * n) * (4 * (α * m) + β * n) * 400 ≤ 16 * K
      by d e h =
          le_of_mul-le-mul_right {k = m * m}
          (nl 8 (α ∷ β ∷ n ∷ m ∷ d ∷ K ∷ []) (h & e &≡ done) (search jobs depth 60 fits 100000) refl) (mul-pos mpos mpos)

  from_keeps : (K : ℕ) → β * β * D ≡ K → (4 * (α * m) + β * n) * (4 * (α * m) + β * n) * 400 ≤ 16 * K →
      (α * (m * 4) + n * 1 * β) ^ 2 * (1 * (100 * m ^ 2) * 4) ≤ D * 1 * (β * (m * 4)) ^ 2
  from_keeps K e h = by D e
    where
      by : (d : ℕ) → β * β * d ≡ K → (α * (m * 4) + n * 1 * β) ^ 2 * (1 * (100 * m ^ 2) * 4) ≤ d * 1 * (β * (m * 4)) ^ 2
      by d e = nl 8 (α ∷ β ∷ n ∷ m ∷ d ∷ K ∷ []) (h & e &≡ done) (search jobs depth 60 fits 100000) refl

  pub fits_keeps : fits (α // β) (n // m) ≡ true → Keeps (α * m) (β * n) (β * m)
  fits_keeps h = plain (α * m) (β * n) (β * m) (to_keeps _ difference (leb-true _ _ h))
    where
      plain : (X Y W : ℕ) → (4 * X + Y) * (4 * X + Y) * 400 ≤ 16 * (100 * (W * W) - 75 * (Y * Y)) → Keeps X Y W
      plain X Y W h = omega arith

  pub keeps_fits : Keeps (α * m) (β * n) (β * m) → fits (α // β) (n // m) ≡ true
  keeps_fits h = le-leb _ _ (from_keeps _ difference (plain (α * m) (β * n) (β * m) h))
    where
      plain : (X Y W : ℕ) → Keeps X Y W → (4 * X + Y) * (4 * X + Y) * 400 ≤ 16 * (100 * (W * W) - 75 * (Y * Y))
      plain X Y W h = omega arith

  pub whole_keeps : WholeGain.fits α β n m ≡ true → Keeps (α * m) (β * n) (β * m)
  whole_keeps h = let le = leb-true ((4 * α * m + β * n) ^ 2 + 3 * (β * n) ^ 2) ((2 * β * m) ^ 2) h in omega (arith, simp pow_two at le)

  pub keeps_whole : Keeps (α * m) (β * n) (β * m) → WholeGain.fits α β n m ≡ true
  keeps_whole h = le-leb ((4 * α * m + β * n) ^ 2 + 3 * (β * n) ^ 2) ((2 * β * m) ^ 2) (simp pow_two (omega arith))

  -- the test as defined is the one in whole numbers
  pub fits_whole : fits (α // β) (n // m) ≡ WholeGain.fits α β n m
  fits_whole = go (fits (α // β) (n // m)) refl (WholeGain.fits α β n m) refl
    where
      go : (u : Bool) → fits (α // β) (n // m) ≡ u → (w : Bool) → WholeGain.fits α β n m ≡ w → fits (α // β) (n // m) ≡ WholeGain.fits α β n m
      go true e w f = e ∙ sym (keeps_whole (fits_keeps e))
      go false e true f = absurd (clash (keeps_fits (whole_keeps f)) e)
      go false e false f = e ∙ sym f

-- n/m ≤ n'/m': what fits at n'/m' fits at n/m
pub keeps_down : (α β n m n' m' : ℕ) → 0 < m' → n * m' ≤ n' * m → Keeps (α * m') (β * n') (β * m') → Keeps (α * m) (β * n) (β * m)
keeps_down α β n m n' m' pos le h =
    le_of_mul-le-mul_right {k = m' * m'}
    (nl 8 (α ∷ β ∷ n ∷ m ∷ n' ∷ m' ∷ []) (h & le & done) (search jobs depth 60 fits 100000) refl) (mul-pos pos pos)

-- ---- (A + x/4 - 1/1000)² < (1 - 0.75 x²)/4

pub exceeds_like : {a x : Fraction} {α β n m : ℕ} → Like a α β → Like x n m → exceeds a x ≡ exceeds (α // β) (n // m)
exceeds_like ha hx =
    at_most_lem (per (minus (self 1 1) (times (self 75 100) (power hx 2))) (self 4 1)) (power (minus (plus ha (per hx (self 4 1))) (self 1 1000)) 2)

-- M is 1000 (4 X + Y) - 4 W
abbrev pub Room : ℕ → ℕ → ℕ → Type 0
Room M Y W = M * M + 3000000 * (Y * Y) < 4000000 * (W * W)

abbrev pub rest : ℕ → ℕ → ℕ → ℕ
rest X Y W = 1000 * (4 * X + Y) - 4 * W

-- n/m ≤ n'/m': the room at n'/m' is there at n/m
room_by : (M Y W M' Y' W' m m' : ℕ) → 0 < m → M * m' ≤ M' * m → Y * m' ≤ Y' * m → W * m' ≡ W' * m → Room M' Y' W' → Room M Y W
room_by M Y W M' Y' W' m m' mpos a b e h =
    lt_of_mul-lt-mul_right (m' * m')
    (omega (arith, mul-le-mul a a, mul-le-mul b b, ap (λ (z : ℕ). z * z) e, mul-lt-mul_of_pos_right h (mul-pos mpos mpos)))

pub room_down : (α β n m n' m' : ℕ) → 0 < m → n * m' ≤ n' * m → Room (rest (α * m') (β * n') (β * m')) (β * n') (β * m') →
    Room (rest (α * m) (β * n) (β * m)) (β * n) (β * m)
room_down α β n m n' m' mpos le =
    room_by (rest (α * m) (β * n) (β * m)) (β * n) (β * m) (rest (α * m') (β * n') (β * m')) (β * n') (β * m') m m' mpos
    (omega (
      arith,
      mul-sub m' (1000 * (4 * (α * m) + β * n)) (4 * (β * m)),
      mul-sub m (1000 * (4 * (α * m') + β * n')) (4 * (β * m')),
      mul-le-mul_left β le,
    ))
    (omega (arith, mul-le-mul_left β le)) (omega arith)

pub room_exceeds : (α β n m : ℕ) → 0 < β → 0 < m → Room (rest (α * m) (β * n) (β * m)) (β * n) (β * m) → exceeds (α // β) (n // m) ≡ false
room_exceeds α β n m bpos mpos h =
    lt-leb _ _
    (by (D α β n m bpos mpos) _ (difference α β n m bpos mpos) ((α * (m * 4) + n * 1 * β) * 1000 - 1 * (β * (m * 4)))
    (plain (rest (α * m) (β * n) (β * m)) _ (β * n) (β * m) (omega arith) h))
  where
    plain : (M L Y W : ℕ) → L ≡ M → Room M Y W → L * L < 40000 * (100 * (W * W) - 75 * (Y * Y))
    plain M L Y W e h = rw e (omega arith)

    by : (d K : ℕ) → β * β * d ≡ K → (L : ℕ) → L * L < 40000 * K → L ^ 2 * (1 * (100 * m ^ 2) * 4) < d * 1 * (β * (m * 4) * 1000) ^ 2
    by d K e L lt = simp pow_two (omega (arith, mul-lt-mul_of_pos_right lt (mul-pos mpos mpos), ap (λ (z : ℕ). z * (m * m)) e))

-- ---- x fits and y does not, and y is at most x (1 + 1/1,600,000): both sides of the test are near

square_le : (x y : ℕ) → x * x ≤ y * y → x ≤ y
square_le x y h = let n : ¬ (y < x) = λ lt. not-le_of_lt (square_lt y x lt) h in omega arith
  where
    square_lt : (a b : ℕ) → a < b → a * a < b * b
    square_lt a b lt = omega (arith, mul-le-mul_left a lt, mul-le-mul_right b lt)

-- xx, xy, .. are products of X, Y, W
more_linear : (xx xy yy ww wy : ℕ) → 4000000 * xx + 2000000 * xy + 1000000 * yy + 2000 * wy ≤ 1000000 * ww → 2 * xy ≤ wy → yy ≤ wy →
    4 * (2560000000000 * xx) + 2 * (2560001600000 * xy) + 2560003200001 * yy ≤ 2560000000000 * ww
more_linear xx xy yy ww wy k a b = omega (arith, mul-le-mul_left 2560000 k)

-- A + 1/1000 does not fit at x
pub breaks_more : (X Y W : ℕ) → ¬ (Keeps (X * 1600000) (Y * 1600001) (W * 1600000)) → Keeps X Y W → ¬ (Keeps (1000 * X + W) (1000 * Y) (1000 * W))
breaks_more X Y W none h k =
    let wide : Y ≤ W = square_le Y W (omega arith) in
    let deep : 2 * X ≤ W = square_le (2 * X) W (omega arith) in
    none
    (put X Y W
    (more_linear (X * X) (X * Y) (Y * Y) (W * W) (W * Y) (weaker X Y W k) (twice X Y W deep) (mul-le-mul_right Y wide)))
  where
    weaker : (X Y W : ℕ) → Keeps (1000 * X + W) (1000 * Y) (1000 * W) →
        4000000 * (X * X) + 2000000 * (X * Y) + 1000000 * (Y * Y) + 2000 * (W * Y) ≤ 1000000 * (W * W)
    weaker X Y W k = omega arith

    twice : (X Y W : ℕ) → 2 * X ≤ W → 2 * (X * Y) ≤ W * Y
    twice X Y W le = omega (arith, mul-le-mul_right Y le)

    put : (X Y W : ℕ) → 4 * (2560000000000 * (X * X)) + 2 * (2560001600000 * (X * Y)) + 2560003200001 * (Y * Y) ≤ 2560000000000 * (W * W) →
        Keeps (X * 1600000) (Y * 1600001) (W * 1600000)
    put X Y W le = omega arith

-- mm is M², with what it comes to
less_linear : (xx xy yy ww wx wy mm : ℕ) → mm + 8000 * (4 * wx + wy) ≡ 1000000 * (16 * xx + 8 * xy + yy) + 16 * ww → ww ≤ 4 * wx + wy → xy ≤ ww → yy ≤ 4 * ww →
    4 * (2560003200001 * xx) + 2 * (2560001600000 * xy) + 2560000000000 * yy ≤ 2560003200001 * ww → 0 < ww → mm + 3000000 * yy < 4000000 * ww
less_linear xx xy yy ww wx wy mm e over a b h pos =
    last (4 * xx + 2 * xy + yy) ww (4 * wx + wy) (mm + 3000000 * yy) (omega arith) over (little xx xy yy ww h a b) pos
  where
    little : (xx xy yy ww : ℕ) → 4 * (2560003200001 * xx) + 2 * (2560001600000 * xy) + 2560000000000 * yy ≤ 2560003200001 * ww → xy ≤ ww → yy ≤ 4 * ww →
        1000 * (4 * xx + 2 * xy + yy) ≤ 1001 * ww
    little xx xy yy ww h a b =
        le_of_mul-le-mul_right {k = 2560003200001} (omega (arith, mul-le-mul_left 1000 h, mul-le-mul_left 3200002000 a, mul-le-mul_left 3200001000 b)) (lit< tt)

    last : (f ww g m : ℕ) → m + 8000 * g ≡ 4000000 * f + 16 * ww → ww ≤ g → 1000 * f ≤ 1001 * ww → 0 < ww → m < 4000000 * ww
    last f ww g m e over fine pos = omega arith

-- with A - 1/1000 there is room at y
pub room_less : (X Y W : ℕ) → ¬ (Keeps X Y W) → Keeps (X * 1600001) (Y * 1600000) (W * 1600001) → Room (rest X Y W) Y W
room_less X Y W none h =
    room X Y W (1000 * (4 * X + Y) - 4 * W) (omega (arith, more)) more deep (omega (arith, wide)) (put X Y W h)
  where
    wide : Y * 1600000 ≤ W * 1600001
    wide = square_le (Y * 1600000) (W * 1600001) (omega arith)

    deep : 2 * X ≤ W
    deep = le_of_mul-le-mul_right {k = 1600001} (square_le (2 * X * 1600001) (W * 1600001) (omega arith)) (lit< tt)

    more : W < 2 * X + Y
    more = let over : ¬ (2 * X + Y ≤ W) = λ le. none (less X Y W (mul-le-mul le le)) in omega arith
      where
        less : (X Y W : ℕ) → (2 * X + Y) * (2 * X + Y) ≤ W * W → Keeps X Y W
        less X Y W h = omega arith

    put : (X Y W : ℕ) → Keeps (X * 1600001) (Y * 1600000) (W * 1600001) →
        4 * (2560003200001 * (X * X)) + 2 * (2560001600000 * (X * Y)) + 2560000000000 * (Y * Y) ≤ 2560003200001 * (W * W)
    put X Y W h = omega arith

    square : (X Y W M : ℕ) → M + 4 * W ≡ 1000 * (4 * X + Y) → M * M + 8000 * (4 * (W * X) + W * Y) ≡ 1000000 * (16 * (X * X) + 8 * (X * Y) + Y * Y) + 16 * (W * W)
    square X Y W M e = omega (arith, ap (λ (z : ℕ). z * z) e, ap (λ (z : ℕ). W * z) e)

    both : (X Y W : ℕ) → 2 * X * Y ≤ W * (2 * W) → X * Y ≤ W * W
    both X Y W h = omega arith

    four : (Y W : ℕ) → Y * Y ≤ 2 * W * (2 * W) → Y * Y ≤ 4 * (W * W)
    four Y W h = omega arith

    room : (X Y W M : ℕ) → M + 4 * W ≡ 1000 * (4 * X + Y) → W < 2 * X + Y → 2 * X ≤ W → Y ≤ 2 * W →
        4 * (2560003200001 * (X * X)) + 2 * (2560001600000 * (X * Y)) + 2560000000000 * (Y * Y) ≤ 2560003200001 * (W * W) → Room M Y W
    room X Y W M e over half twice h =
        less_linear (X * X) (X * Y) (Y * Y) (W * W) (W * X) (W * Y) (M * M) (square X Y W M e) (omega (arith, mul-le-mul_left W over))
        (both X Y W (mul-le-mul half twice)) (four Y W (mul-le-mul twice twice)) h (let some : 0 < W = omega arith in mul-pos some some)

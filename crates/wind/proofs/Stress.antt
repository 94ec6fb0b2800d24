-- The ring stress of wind is the one whole number of kN/m² that is enough and has none below it that is. Assumes nothing.
use mathlib.Core.Path.{◌≡◌, refl, sym, ap, ◌∙◌}
use mathlib.Core.Bool.{Bool, true, false}
use mathlib.Core.Logic.{⊎_elim}
use Prim.Native.Nat.{ℕ, zero, suc, ◌+◌, ◌*◌, ◌^◌, ◌≤◌, ◌<◌}
use native.Mathlib.Nat.{mul-le-mul, mul-le-mul_left, mul-le-mul_right, pow-le-pow_left, le_trans}
use native.Mathlib.Decide.{dec_lt}
use native.Mathlib.Omega.{arith}
use lib.Dec.{lit≤}
use borrow.Author.Tests.{leb-true, le-leb}
use Rattle.algebra.specs.Choice.{pick}
use Rattle.algebra.proofs.Tests.{or_true, clash}
use Rattle.cylinder.specs.declared.Cylinder.{Cylinder}
use Rattle.cylinder.specs.Fraction.{whole}
use Rattle.cylinder.specs.InLimits.{InLimits}
use Rattle.cylinder.proofs.Limits.{Sound, sound}
use Rattle.wind.specs.Wind.{exact_stress, is_enough, smallest, wind_stress, WindStress}
use Rattle.wind.specs.WholeWind.{by_cap, above, below, root_within, rest, enough}
use Rattle.wind.proofs.Agree.{or_right, cap_enough, enough_agrees}

-- ---- the smallest number that passes a test

pub smallest_passes : (p : ℕ → Bool) (most : ℕ) → p most ≡ true → p (smallest p most) ≡ true
unfolding smallest
smallest_passes p zero h = h
smallest_passes p (suc most) h = go (p 0) refl (smallest_passes (λ m. p (suc m)) most h)
  where
    go : (b : Bool) → p 0 ≡ b → p (suc (smallest (λ m. p (suc m)) most)) ≡ true → p (pick b 0 (suc (smallest (λ m. p (suc m)) most))) ≡ true
    go true e later = e
    go false e later = later

pub smallest_least : (p : ℕ → Bool) (most k : ℕ) → k < smallest p most → p k ≡ false
unfolding smallest
smallest_least p zero k lt = absurd (omega arith)
smallest_least p (suc most) k lt = go (p 0) refl k lt (smallest_least (λ m. p (suc m)) most)
  where
    go : (b : Bool) → p 0 ≡ b → (k : ℕ) → k < pick b 0 (suc (smallest (λ m. p (suc m)) most)) → ((j : ℕ) → j < smallest (λ m. p (suc m)) most → p (suc j) ≡ false)
        → p k ≡ false
    go true e k lt later = absurd (omega arith)
    go false e zero lt later = e
    go false e (suc k) lt later = later k (omega arith)

pub smallest_most : (p : ℕ → Bool) (most : ℕ) → smallest p most ≤ most
unfolding smallest
smallest_most p zero = omega arith
smallest_most p (suc most) = go (p 0) (smallest_most (λ m. p (suc m)) most)
  where
    go : (b : Bool) → smallest (λ m. p (suc m)) most ≤ most → pick b 0 (suc (smallest (λ m. p (suc m)) most)) ≤ suc most
    go true later = omega arith
    go false later = omega arith

pub smallest_only : (p : ℕ → Bool) (most m : ℕ) → m ≤ most → p m ≡ true → ((k : ℕ) → k < m → p k ≡ false) → m ≡ smallest p most
unfolding smallest
smallest_only p zero m le h less = omega arith
smallest_only p (suc most) zero le h less = rw h
smallest_only p (suc most) (suc m) le h less =
    rw (less 0 (omega arith)) (ap suc (smallest_only (λ n. p (suc n)) most m (omega arith) h (λ k lt. less (suc k) (omega arith))))

-- ---- whether so many kN/m² are enough

-- more than enough is enough
whole_up : (s : Cylinder) (w v m n : ℕ) → m ≤ n → enough s w v m ≡ true → enough s w v n ≡ true
unfolding enough
whole_up s w v m n le h = ⊎_elim by_cap_lem by_root (or_true (by_cap s w v m) (root_within s w (rest s w v m)) h)
  where
    walls : m * s.wall ≤ n * s.wall
    walls = mul-le-mul_right s.wall le

    by_cap_lem : by_cap s w v m ≡ true → enough s w v n ≡ true
    by_cap_lem e = rw (le-leb ((5 + 3 * v) * (s.radius * w)) (n * (25 * s.wall)) (omega (arith, walls, leb-true ((5 + 3 * v) * (s.radius * w)) (m * (25 * s.wall)) e)))

    by_root : root_within s w (rest s w v m) ≡ true → enough s w v n ≡ true
    by_root e =
        or_right (by_cap s w v n) (root_within s w (rest s w v n))
        (le-leb (above s w) (below s * rest s w v n ^ 4)
        (le_trans (leb-true (above s w) (below s * rest s w v m ^ 4) e) (mul-le-mul_left (below s) (pow-le-pow_left further 4))))
      where
        further : rest s w v m ≤ rest s w v n
        further = omega (arith, walls)

pub enough_up : (s : Cylinder) → Sound s → (w v m n : ℕ) → m ≤ n → is_enough s w v m ≡ true → is_enough s w v n ≡ true
enough_up s ok w v m n le h = enough_agrees s ok w v n ∙ whole_up s w v m n le (sym (enough_agrees s ok w v m) ∙ h)

-- so what is below a number that is not enough, is not
pub enough_down : (s : Cylinder) → Sound s → (w v m n : ℕ) → m ≤ n → is_enough s w v n ≡ false → is_enough s w v m ≡ false
enough_down s ok w v m n le h = go (is_enough s w v m) refl
  where
    go : (b : Bool) → is_enough s w v m ≡ b → is_enough s w v m ≡ false
    go true e = absurd (clash (enough_up s ok w v m n le e) h)
    go false e = e

-- 8 r w is at most 80,000 r, and r at most 12.5 walls
most_bound : (r W w v : ℕ) → 100 * r ≤ 1250 * W → w ≤ 10000 → v ≤ 1 → (5 + 3 * v) * (r * w) ≤ 40000 * (25 * W)
most_bound r W w v thin gust vented =
    le_trans (mul-le-mul (eight v vented) (mul-le-mul_left r gust)) (omega arith)
  where
    eight : (v : ℕ) → v ≤ 1 → 5 + 3 * v ≤ 8
    eight v h = omega arith

pub most_enough : (s : Cylinder) → InLimits s → (w v : ℕ) → w ≤ 10000 → v ≤ 1 → is_enough s w v 40000 ≡ true
most_enough s ok w v gust vented = cap_enough s (sound s ok) w v 40000 (le-leb _ _ (most_bound s.radius s.wall w v ok.not_thin gust vented))

-- ---- the stress

-- so that nothing counts 40,000 steps
stress_is : (s : Cylinder) (w v : ℕ) → wind_stress s w v ≡ smallest (is_enough s w v) 40000
unfolding wind_stress
stress_is s w v = refl

pub wind_most : (s : Cylinder) (w v : ℕ) → wind_stress s w v ≤ 40000
wind_most s w v = rw stress_is (smallest_most (is_enough s w v) 40000)

pub wind_stress_lem : (s : Cylinder) → InLimits s → (w v : ℕ) → w ≤ 10000 → v ≤ 1 → WindStress s w v (wind_stress s w v)
wind_stress_lem s ok w v gust vented =
    rw stress_is
    (record { at_least = smallest_passes (is_enough s w v) 40000 (most_enough s ok w v gust vented); no_less = smallest_least (is_enough s w v) 40000 })

pub wind_stress_only : (s : Cylinder) → InLimits s → (w v : ℕ) → w ≤ 10000 → v ≤ 1 → (m : ℕ) → WindStress s w v m → m ≡ wind_stress s w v
wind_stress_only s ok w v gust vented m is = rw stress_is (smallest_only (is_enough s w v) 40000 m small is.at_least is.no_less)
  where
    small : m ≤ 40000
    small = elim (dec_lt 40000 m) [
      | yes lt ↦ absurd (clash (most_enough s ok w v gust vented) (is.no_less 40000 lt))
      | no h ↦ omega arith
    ]

-- what the code has to find
pub found : (s : Cylinder) (w v : ℕ) → InLimits s × (w ≤ 10000) × (v ≤ 1) → {m : ℕ} → WindStress s w v m → (m ≡ wind_stress s w v) × (m ≤ 40000)
found s w v pre {m} is = (same, rw same (wind_most s w v))
  where
    same : m ≡ wind_stress s w v
    same = wind_stress_only s pre.0 w v pre.1 pre.2 m is

pub no_wind : (s : Cylinder) → InLimits s → (v : ℕ) → wind_stress s 0 v ≡ 0
no_wind s ok v = rw stress_is (sym (smallest_only (is_enough s 0 v) 40000 0 (lit≤ tt) (cap_enough s (sound s ok) 0 v 0 (le-leb ((5 + 3 * v) * (s.radius * 0)) (0 * (25 * s.wall)) none)) (λ k lt. absurd (omega arith))))
  where
    none : (5 + 3 * v) * (s.radius * 0) ≤ 0 * (25 * s.wall)
    none = omega arith

-- enough, and one less is not
pub wind_found : (s : Cylinder) → InLimits s → (w v m : ℕ) → w ≤ 10000 → v ≤ 1 → is_enough s w v (m + 1) ≡ true → is_enough s w v m ≡ false → wind_stress s w v ≡ m + 1
wind_found s ok w v m gust vented h g =
    sym (wind_stress_only s ok w v gust vented (m + 1) (record { at_least = h; no_less = λ k lt. enough_down s (sound s ok) w v k m (omega arith) g }))

-- ---- an example: r/t = 100, r/l = 10, edges 22, a gust pressure of 1 kN/m². δ = 0.46 (1 + 0.1 √(10 √100)) = 0.92, and r/t times that is 92.

abbrev pub example : Cylinder
example = record { radius = 1000; wall = 2000; length = 100; modulus = 210000; yield_stress = 240; edges = 22; imperfection = 1000 }

example_limits : InLimits example
example_limits =
    record {
      radius_least = lit≤ tt;
      radius_most = lit≤ tt;
      wall_least = lit≤ tt;
      wall_most = lit≤ tt;
      length_least = lit≤ tt;
      length_most = lit≤ tt;
      modulus_least = lit≤ tt;
      modulus_most = lit≤ tt;
      yield_least = lit≤ tt;
      yield_most = lit≤ tt;
      imperfection_most = lit≤ tt;
      not_thick = lit≤ tt;
      not_thin = lit≤ tt;
      not_short = lit≤ tt;
      not_long = lit≤ tt;
    }

pub wind_92 : wind_stress example 1000 0 ≡ 92
wind_92 = wind_found example example_limits 1000 0 91 (lit≤ tt) (lit≤ tt) refl refl

-- the exact stress is 92 itself
pub exact_92 : ((exact_stress example 1000 0).reaches (whole 92) ≡ true) × ((exact_stress example 1000 0).within (whole 92) ≡ true)
exact_92 = (refl, refl)

-- vented: 0.6 more, which the cap of 1 does not hold down
pub wind_152 : wind_stress example 1000 1 ≡ 152
wind_152 = wind_found example example_limits 1000 1 151 (lit≤ tt) (lit≤ tt) refl refl

-- How the code finds the stress: what the three rounded numbers say of it. Assumes nothing.
use mathlib.Core.Path.{◌≡◌, ap, subst, ◌∙◌}
use mathlib.Core.Bool.{Bool, true, false}
use Prim.Native.Nat.{ℕ, zero, suc, ◌+◌, ◌*◌, ◌-◌, ◌^◌, ◌≤◌, ◌<◌}
use native.Mathlib.Nat.{mul-pos, mul-le-mul, mul-le-mul_left, mul-le-mul_right, mul-lt-mul_of_pos_left, pow-le-pow_left, pow-lt-pow_left, le_trans, lt_of_lt_of_le, one-le-pow}
use native.Mathlib.Decide.{dec_lt}
use native.Mathlib.Omega.{arith}
use lib.Dec.{leb, lit<}
use borrow.Author.Tests.{leb-true, leb-false, le-leb, lt-leb}
use Rattle.algebra.specs.Bisection.{Edge}
use Rattle.algebra.proofs.Powers.{mul_pow}
use Rattle.algebra.proofs.Tests.{and_true, and_rest}
use Rattle.roots.specs.Largest.{test, largest}
use Rattle.roots.proofs.Largest.{largest_edge}
use Rattle.std.specs.Int.{from_bool, div_ceil}
use Rattle.cylinder.specs.declared.Cylinder.{Cylinder}
use Rattle.cylinder.specs.declared.ValidCylinder.{ValidCylinder}
use Rattle.cylinder.specs.InLimits.{InLimits}
use Rattle.cylinder.proofs.Limits.{sound}
use Rattle.wind.specs.Wind.{is_enough, wind_stress, WindStress}
use Rattle.wind.specs.WholeWind.{by_cap, above, below, root_within, rest, enough, RoundedUp}
use Rattle.wind.proofs.Agree.{or_right, above_pos, wind_pos, cap_enough, enough_agrees}
use Rattle.wind.proofs.Rows.{load_most, rounded_up}
use Rattle.wind.proofs.Stress.{found}

-- ---- the root in eights

-- 8 p is at most the root of a/b, and 8 p + 8 above it unless p is the largest there is
pub record Eighths (a b p : ℕ) : Type 0 where
  pub most : p ≤ 4294967295
  pub reached : p ^ 4 * (4096 * b) ≤ a
  pub passed : p < 4294967295 → a < (p + 1) ^ 4 * (4096 * b)

pub eighths : (a b p : ℕ) → p ≡ largest 4 4294967295 (4096 * b) a → Eighths a b p
eighths a b p is =
    record {
      most = leb-true p 4294967295 pass.0;
      reached = leb-true (p ^ 4 * (4096 * b)) a pass.1;
      passed = λ lt. leb-false ((p + 1) ^ 4 * (4096 * b)) a (and_rest (leb (p + 1) 4294967295) (leb ((p + 1) ^ 4 * (4096 * b)) a) edge.fails (le-leb (p + 1) 4294967295 (omega arith)));
    }
  where
    edge : Edge (test 4 4294967295 (4096 * b) a) p
    edge = rw is (largest_edge 4 4294967295 (4096 * b) a (lit< tt) (lit< tt))

    pass : (leb p 4294967295 ≡ true) × (leb (p ^ 4 * (4096 * b)) a ≡ true)
    pass = and_true (leb p 4294967295) (leb (p ^ 4 * (4096 * b)) a) edge.passes

in_eights : (b p : ℕ) → b * (8 * p) ^ 4 ≡ p ^ 4 * (4096 * b)
in_eights b p = ap (λ (n : ℕ). b * n) (mul_pow 8 p 4) ∙ plain (p ^ 4)
  where
    plain : (n : ℕ) → b * (4096 * n) ≡ n * (4096 * b)
    plain n = omega arith

-- ---- plain numbers

-- what is below the number rounded up
short_of : (n d m k : ℕ) → RoundedUp n d m → k < m → k * d < n
short_of n d m k h lt = omega (arith, mul-le-mul_right d lt)

-- the root is not within a difference that is short of 8 p
root_short : (a b n d p k : ℕ) → 0 < a → 0 < b → p ^ 4 * (4096 * b) ≤ a → k * d < n + 8 * p → b * (k * d - n) ^ 4 < a
root_short a b n d zero k a-pos b-pos h lt = rw none pos
  where
    none : k * d - n ≡ 0
    none = omega arith

    pos : b * 0 < a
    pos = omega arith
root_short a b n d (suc p) k a-pos b-pos h lt =
    lt_of_lt_of_le (mul-lt-mul_of_pos_left (pow-lt-pow_left {n = 4} less (λ e. absurd (omega arith))) b-pos) (rw in_eights h)
  where
    less : k * d - n < 8 * suc p
    less = omega arith

-- it is within one that has 8 p + 8
root_full : (a b n d p k : ℕ) → a < (p + 1) ^ 4 * (4096 * b) → n + 8 * p + 8 ≤ k * d → a ≤ b * (k * d - n) ^ 4
root_full a b n d p k h le = le_trans (omega (arith, h, in_eights b (p + 1))) (mul-le-mul_left b (pow-le-pow_left more 4))
  where
    more : 8 * (p + 1) ≤ k * d - n
    more = omega arith

-- at the largest p the root's stress is above the cap's
far : (n v W lo : ℕ) → n ≤ 500000000 → lo * (25 * W) < (5 + 3 * v) * n → (23 + 30 * v) * n + 8 * 4294967295 ≤ lo * (250 * W) → ⊥
far n v W lo h lt le = omega arith

next : (n d lo hi : ℕ) → 8 < d → RoundedUp n d lo → RoundedUp (n + 8) d hi → hi ≤ lo + 1
next n d lo hi big low high = elim (dec_lt (lo + 1) hi) [
  | yes lt ↦ absurd (omega (arith, short_of (n + 8) d hi (lo + 1) high lt))
  | no h ↦ omega arith
]

-- ---- the stress

-- the numbers of the code: `top` by the cap, `lo` and `hi` by the root, from below and from above
module _
    (s : Cylinder)
    (w v p top lo : ℕ)
    (pre : InLimits s × (w ≤ 10000) × (v ≤ 1))
    (root : Eighths (above s w) (below s) p)
    (is-top : RoundedUp ((5 + 3 * v) * (s.radius * w)) (25 * s.wall) top)
    (is-lo : RoundedUp ((23 + 30 * v) * (s.radius * w) + 8 * p) (250 * s.wall) lo)
  where
    cap_missed : (k : ℕ) → k < top → by_cap s w v k ≡ false
    cap_missed k lt = lt-leb ((5 + 3 * v) * (s.radius * w)) (k * (25 * s.wall)) (short_of _ _ top k is-top lt)

    below_pos : 0 < below s
    below_pos = mul-pos (mul-pos {m = 800} (lit< tt) (one-le-pow 2 s.length (omega arith))) (omega arith)

    root_missed : (k : ℕ) → 0 < w → k < lo → root_within s w (rest s w v k) ≡ false
    root_missed k pos lt =
        lt-leb (above s w) (below s * rest s w v k ^ 4)
        (root_short (above s w) (below s) ((23 + 30 * v) * (s.radius * w)) (250 * s.wall) p k (above_pos s w (omega arith) pos) below_pos root.reached
        (short_of _ _ lo k is-lo lt))

    -- neither test passes
    missed : (k : ℕ) → k < top → root_within s w (rest s w v k) ≡ false → is_enough s w v k ≡ false
    unfolding enough
    missed k lt h = enough_agrees s (sound s pre.0) w v k ∙ rw (cap_missed k lt, h)

    missed_below : (k : ℕ) → k < top → k < lo → is_enough s w v k ≡ false
    missed_below k lt less = missed k lt (root_missed k (wind_pos (5 + 3 * v) s.radius w (k * (25 * s.wall)) (cap_missed k lt)) less)

    -- by the root
    passed : (k : ℕ) → root_within s w (rest s w v k) ≡ true → is_enough s w v k ≡ true
    unfolding enough
    passed k h = enough_agrees s (sound s pre.0) w v k ∙ or_right (by_cap s w v k) (root_within s w (rest s w v k)) h

    pub top_found : top ≤ lo → WindStress s w v top
    top_found le =
        record {
          at_least = cap_enough s (sound s pre.0) w v top (le-leb ((5 + 3 * v) * (s.radius * w)) (top * (25 * s.wall)) is-top.0);
          no_less = λ k lt. missed_below k lt (omega arith);
        }

    pub lo_found : lo < top → root_within s w (rest s w v lo) ≡ true → WindStress s w v lo
    lo_found lt h = record { at_least = passed lo h; no_less = λ k less. missed_below k (omega arith) less }

    not_last : lo < top → p < 4294967295
    not_last lt = elim (dec_lt p 4294967295) [
      | yes h ↦ h
      | no h ↦ absurd (far (s.radius * w) v s.wall lo (load_most s w pre.0 pre.1) (short_of _ _ top lo is-top lt) (omega (arith, root.most)))
    ]

    module _ (hi : ℕ) (is-hi : RoundedUp ((23 + 30 * v) * (s.radius * w) + 8 * p + 8) (250 * s.wall) hi) (lt : lo < top) where
      hi_within : root_within s w (rest s w v hi) ≡ true
      hi_within =
          le-leb (above s w) (below s * rest s w v hi ^ 4)
          (root_full (above s w) (below s) ((23 + 30 * v) * (s.radius * w)) (250 * s.wall) p hi (root.passed (not_last lt)) is-hi.0)

      pub same_found : lo ≡ hi → WindStress s w v lo
      same_found e = lo_found lt (rw e hi_within)

      pub hi_found : (lo ≡ hi → ⊥) → root_within s w (rest s w v lo) ≡ false → WindStress s w v hi
      hi_found apart h = record { at_least = passed hi hi_within; no_less = below_hi }
        where
          one_more : hi ≤ lo + 1
          one_more = next ((23 + 30 * v) * (s.radius * w) + 8 * p) (250 * s.wall) lo hi (omega arith) is-lo is-hi

          below_hi : (k : ℕ) → k < hi → is_enough s w v k ≡ false
          below_hi k less = elim (dec_lt k lo) [
            | yes l ↦ missed_below k (omega arith) l
            | no n ↦ subst (λ (j : ℕ). is_enough s w v j ≡ false) (omega (arith, one_more)) (missed lo lt h)
          ]

-- ---- what the code answers

module _
    (shell : ValidCylinder)
    (w : ℕ)
    (vented : Bool)
    (v p top lo : ℕ)
    (gust : w ≤ 10000)
    (is-v : v ≡ from_bool vented)
    (is-p : (p ≡ largest 4 4294967295 (4096 * below shell.cylinder) (above shell.cylinder w)) × (p ≤ 4294967295))
    (is-top : top ≡ div_ceil ((5 + 3 * v) * (shell.cylinder.radius * w)) (25 * shell.cylinder.wall))
    (is-lo : lo ≡ div_ceil ((23 + 30 * v) * (shell.cylinder.radius * w) + 8 * p) (250 * shell.cylinder.wall))
  where
    flag : v ≤ 1
    flag = rw is-v (bit vented)
      where
        bit : (b : Bool) → from_bool b ≤ 1
        bit true = omega arith
        bit false = omega arith

    abbrev pre : InLimits shell.cylinder × (w ≤ 10000) × (v ≤ 1)
    pre = (shell.in_limits, gust, flag)

    top-up : RoundedUp ((5 + 3 * v) * (shell.cylinder.radius * w)) (25 * shell.cylinder.wall) top
    top-up = rounded_up (omega arith) is-top

    lo-up : RoundedUp ((23 + 30 * v) * (shell.cylinder.radius * w) + 8 * p) (250 * shell.cylinder.wall) lo
    lo-up = rounded_up (omega arith) is-lo

    is-eighths : Eighths (above shell.cylinder w) (below shell.cylinder) p
    is-eighths = eighths _ _ p is-p.0

    answered : {m : ℕ} → WindStress shell.cylinder w v m → (m ≡ wind_stress shell.cylinder w (from_bool vented)) × (m ≤ 40000)
    answered is = let f = found shell.cylinder w v pre is in (f.0 ∙ ap (wind_stress shell.cylinder w) is-v, f.1)

    pub lo_fits : lo * (250 * shell.cylinder.wall) < 18446744073709551616
    lo_fits = omega (arith, is-p.1, lo-up.1, mul-le-mul most (load_most shell.cylinder w shell.in_limits gust))
      where
        most : 23 + 30 * v ≤ 53
        most = omega (arith, flag)

    pub by_the_cap : top ≤ lo → (top ≡ wind_stress shell.cylinder w (from_bool vented)) × (top ≤ 40000)
    by_the_cap le = answered (top_found shell.cylinder w v p top lo pre is-eighths top-up lo-up le)

    pub by_the_root : lo < top → root_within shell.cylinder w (lo * (250 * shell.cylinder.wall) - (23 + 30 * v) * (shell.cylinder.radius * w)) ≡ true
        → (lo ≡ wind_stress shell.cylinder w (from_bool vented)) × (lo ≤ 40000)
    by_the_root lt h = answered (lo_found shell.cylinder w v p top lo pre is-eighths top-up lo-up lt h)

    module _ (hi : ℕ) (is-hi : hi ≡ div_ceil ((23 + 30 * v) * (shell.cylinder.radius * w) + 8 * p + 8) (250 * shell.cylinder.wall)) (lt : lo < top) where
      pub by_either : lo ≡ hi → (lo ≡ wind_stress shell.cylinder w (from_bool vented)) × (lo ≤ 40000)
      by_either e = answered (same_found shell.cylinder w v p top lo pre is-eighths top-up lo-up hi (rounded_up (omega arith) is-hi) lt e)

      pub by_the_next : (lo ≡ hi → ⊥) → root_within shell.cylinder w (lo * (250 * shell.cylinder.wall) - (23 + 30 * v) * (shell.cylinder.radius * w)) ≡ false
          → (hi ≡ wind_stress shell.cylinder w (from_bool vented)) × (hi ≤ 40000)
      by_the_next apart h = answered (hi_found shell.cylinder w v p top lo pre is-eighths top-up lo-up hi (rounded_up (omega arith) is-hi) lt apart h)

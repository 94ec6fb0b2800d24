-- `interval::levelled` meets its contract: a step up halves each bound at least once. Assumes nothing.
use mathlib.Core.Path.{◌≡◌, refl}
use Prim.Native.Nat.{ℕ, ◌+◌, ◌-◌, ◌*◌, ◌/◌, ◌^◌, ◌≤◌, ◌<◌}
use native.Mathlib.Nat.{add_comm}
use native.Mathlib.Omega.{arith}
use lib.Pow.{pow-add, pow_pos, shr_le, shr-shr}
use Rattle.interval.specs.declared.Interval.{Interval}
use Rattle.interval.specs.Around.{power, Around, Enclosed}
use Rattle.interval.proofs.Bounds.{level_low, level_high}
use Rattle.interval.proofs.levelled.Goals as goal

-- a larger power is the step times the smaller one
step : (k q : ℕ) → power (k + q) ≡ 2 ^ k * power q
unfolding power
step k q = pow-add 2 k q

-- bounds at a larger power
raised : (a : Interval) (k up l g x : ℕ) → up ≡ k + a.up → l ≡ a.low / 2 ^ k → g ≡ a.gap / 2 ^ k → 0 < a.low → Around a x → Enclosed l (g + 2) up x
raised a k up l g x e el eg known h = rw (e, el, eg, step) (level_low _ x _ _ _ (pow_pos k) (h known).0, level_high _ _ x _ _ _ (pow_pos k) (h known).1)

-- at least one digit is left out
half : (x k n r : ℕ) → r ≡ x / 2 ^ (k + 1) → x < 2 * n → r < n
half x k n r e h = rw (e, ← shr-shr) (omega (arith, shr_le x k))

gap_half : (x k r : ℕ) → r ≡ x / 2 ^ (k + 1) → x ≤ 4294967296 → r + 2 ≤ 2147483650
gap_half x k r e h = let l = half x k 2147483649 r e (omega arith) in omega arith

-- both steps lead to one power
meet : (p q s t : ℕ) → s ≡ q - p → t ≡ p - q → p + (s + 1) ≡ t + 1 + q
meet p q s t d e = omega arith

pub returns : goal.returns
returns c =
    let s = c.saturating_sub-s in
    let t = c.saturating_sub-t in
    let f = c.if-not-both_fit.ensures refl in
    let a = c.args.a in
    let b = c.args.b in
    let al = c.shifted.ensures in
    let ag = c.shifted-2.ensures in
    let bl = c.shifted-3.ensures in
    let bg = c.shifted-4.ensures in
    record {
      a_most = half _ _ 9223372036854775808 _ al (omega arith);
      g_most = gap_half _ _ _ ag f.2.gap_most;
      b_most = half _ _ 9223372036854775808 _ bl (omega arith);
      h_most = gap_half _ _ _ bg f.3.gap_most;
      first = λ x h. raised a (s.result + 1) _ _ _ x (add_comm a.up _) al ag f.0 h;
      second = λ y h. raised b (t.result + 1) _ _ _ y (meet a.up b.up _ _ s.ensures t.ensures) bl bg f.1 h;
    }

-- κ1 with its tolerance: the bounds of a term of ring stress or shear have what they rest on.
use mathlib.Core.Path.{◌≡◌, refl, ap, ◌∙◌}
use mathlib.Core.Bool.{Bool, true, false}
use mathlib.Core.Logic.{◌⊎◌, inl, inr}
use Prim.Native.Nat.{ℕ, ◌+◌, ◌*◌, ◌^◌, ◌≤◌, ◌<◌}
use native.Mathlib.Nat.{mul-pos, one-le-pow}
use native.Mathlib.Omega.{arith}
use lib.Dec.{lit<}
use borrow.Author.Tests.{leb-true}
use Rattle.cylinder.specs.Fraction.{◌//◌}
use Rattle.cylinder.specs.Number.{exactly}
use Rattle.algebra.specs.Choice.{pick}
use Rattle.cylinder.specs.Resistance.{Branch1, branch1}
use Rattle.cylinder.specs.Cut.{Cut, as_number}
use Rattle.cylinder.specs.WholeCurves.{Part, plateau, line, cubic, quadratic, part1, reduction1, long, tolerance_factor, factor1}
use Rattle.cylinder.proofs.Falls.{Falls, constant_falls, falling_falls, inverse_falls, times_falls}
use Rattle.cylinder.proofs.Slow.{Slow, constant_slow, falling_slow, square_slow, times_slow}
use Rattle.cylinder.proofs.Lawful.{Lawful}
use Rattle.cylinder.proofs.Placed.{Placed, same_reaches, same_within, grid_pos, placed_from, placed_below, far_or_finer}
use Rattle.cylinder.proofs.Bounds.{Point, Raised, raise, le_le, Fit}
use Rattle.cylinder.proofs.Branches.{Same1, same1, tolerance_falls, tolerance_den, tolerance_slow}

-- the part of the curve, by the answers at 0.4 and 1.2
abbrev choice : Bool → Bool → Part
choice w r = pick w plateau (pick r quadratic line)

reduction_falls : (c : Part) → Falls (reduction1 c)
reduction_falls plateau = constant_falls 1 1
reduction_falls line = falling_falls 1274 686 1000
reduction_falls cubic = constant_falls 1 1
reduction_falls quadratic = inverse_falls 2 65 100

pub factor1_falls : (s : Cut) (e : ℕ) → Falls (factor1 s e)
factor1_falls s e = times_falls (reduction1 (part1 s)) (tolerance_factor (long s) e) (reduction_falls (part1 s)) (tolerance_falls (long s) e)

reduction_den : (w r : Bool) (p q : ℕ) → 0 < q → (r ≡ true → 0 < p) → 0 < (reduction1 (choice w r)).den p q
reduction_den true r p q pos some = lit< tt
reduction_den false true p q pos some = mul-pos {m = 100} (lit< tt) (one-le-pow 2 p (some refl))
reduction_den false false p q pos some = mul-pos {m = 1000} (lit< tt) pos

module _ (s : Cut) (law : Lawful s) (k q v : ℕ) (at : Placed s k q v) where
  from_1·2 : s.reaches 12 10 ≡ true → 12 * q ≤ k * 10
  from_1·2 e = placed_from s law k q v at 12 10 24 (lit< tt) refl e

  from_1·5 : s.reaches 15 10 ≡ true → 15 * q ≤ k * 10
  from_1·5 e = placed_from s law k q v at 15 10 30 (lit< tt) refl e

  point : Point s (Same1 s) k q
  point =
      let u : Raised s k q 4 10 = raise s law k q 4 10 (grid_pos s law k q v at) (lit< tt) at.reached in
      let up : (a b : ℕ) → a * q ≤ k * b → a * u.r ≤ u.p * b = λ a b h. le_le a b k q u.p u.r (grid_pos s law k q v at) h u.at_least in
      record {
        p = u.p;
        r = u.r;
        positive = u.positive;
        reached = u.reached;
        inside =
            same1 (branch1 (exactly (u.p // u.r))) (branch1 (as_number s)) (same_within s law u.p u.r 4 10 u.reached u.over)
            (same_reaches s law u.p u.r 12 10 u.positive u.reached (λ e. up 12 10 (from_1·2 e)))
            (same_reaches s law u.p u.r 15 10 u.positive u.reached (λ e. up 15 10 (from_1·5 e)));
        over = u.at_least;
      }

  reduction_slow : (w r : Bool) → s.reaches 12 10 ≡ r → (2 * q ≤ k * 1) ⊎ (10000000 ≤ v) → Slow 5000000 5000001 (reduction1 (choice w r)) k q
  reduction_slow true r e f = constant_slow 1 1 5000000 k q
  reduction_slow false true e (inl f) = square_slow 65 100 5000000 k q (omega (arith, from_1·2 e)) (omega (arith, f))
  reduction_slow false true e (inr f) = square_slow 65 100 5000000 k q (omega (arith, from_1·2 e)) (omega (arith, from_1·2 e, f))
  reduction_slow false false e (inl f) = absurd (omega (arith, placed_below s law k q v at 12 10 e, f))
  reduction_slow false false e (inr f) = falling_slow 1274 686 1000 5000000 k q (omega (arith, placed_below s law k q v at 12 10 e, f))

  den_pos : (e p r : ℕ) → 0 < r → (s.reaches 12 10 ≡ true → 0 < p) → 0 < (factor1 s e).den p r
  den_pos e p r pos far = mul-pos (reduction_den (s.within 4 10) (s.reaches 12 10) p r pos far) (tolerance_den (long s) e p r pos)

  pub fit1 : (e rise power top load : ℕ) → e ≤ 1000 → 0 < load →
      (5000001 * 100000001) ^ power * 2000000 ^ rise ≤ 2000001 ^ rise * (5000000 * 100000000) ^ power →
      Fit s (Same1 s) (record { rise = rise; power = power; top = top; load = load; factor = factor1 s e }) k q
  fit1 e rise power top load small loaded fine =
      record {
        lawful = law;
        falls = factor1_falls s e;
        loaded = loaded;
        whole = λ p r pos same.
            den_pos e p r pos (λ h. omega (arith, pos, leb-true (12 * r) (p * 10) (ap (λ (B : Branch1). B.from_1·2) same ∙ h)));
        here = den_pos e k q (grid_pos s law k q v at) (λ h. omega (arith, from_1·2 h));
        next = den_pos e (k + 1) q (grid_pos s law k q v at) (λ h. omega arith);
        point = point;
        c = 5000000 * 100000000;
        d = 5000001 * 100000001;
        some = lit< tt;
        slow =
            times_slow 5000000 5000001 100000000 100000001 (reduction1 (part1 s)) (tolerance_factor (long s) e) k q
            (reduction_slow (s.within 4 10) (s.reaches 12 10) refl (far_or_finer s law k q v at))
            (tolerance_slow s law k q v at (long s) e small refl);
        fine = fine;
      }

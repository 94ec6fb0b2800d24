-- κ2 with its tolerance and partial factor: the bounds of a term of axial stress have what they rest on.
use mathlib.Core.Path.{◌≡◌, refl, ap, ◌∙◌}
use mathlib.Core.Bool.{Bool, true, false}
use mathlib.Core.Logic.{◌⊎◌, inl, inr}
use Prim.Native.Nat.{ℕ, ◌+◌, ◌*◌, ◌^◌, ◌≤◌, ◌<◌}
use native.Mathlib.Nat.{mul-pos, one-le-pow}
use native.Mathlib.Omega.{arith}
use lib.Dec.{lit<}
use borrow.Author.Tests.{leb-false}
use Rattle.cylinder.specs.Fraction.{◌//◌}
use Rattle.cylinder.specs.Number.{exactly}
use Rattle.algebra.specs.Choice.{pick}
use Rattle.cylinder.specs.Resistance.{Branch2, branch2}
use Rattle.cylinder.specs.Cut.{Cut, as_number}
use Rattle.cylinder.specs.Factor.{times}
use Rattle.cylinder.specs.WholeCurves.{Part, plateau, line, cubic, quadratic, part2, reduction2, long, tolerance_factor, safety, factor2}
use Rattle.cylinder.proofs.Falls.{Falls, constant_falls, falling_falls, inverse_falls, divided_falls, times_falls}
use Rattle.cylinder.proofs.Slow.{Slow, constant_slow, falling_slow, square_slow, cube_slow, divided_slow, times_slow}
use Rattle.cylinder.proofs.Lawful.{Lawful}
use Rattle.cylinder.proofs.Placed.{Placed, same_reaches, same_within, reaches_over, grid_pos, placed_from, far_or_finer}
use Rattle.cylinder.proofs.Bounds.{Point, Raised, raise, le_le, lt_le, Fit}
use Rattle.cylinder.proofs.Branches.{Same2, same2, tolerance_falls, tolerance_den, tolerance_slow}

-- the part of the curve, by the answers at 0.25, 1 and 1.5
abbrev pub choice : Bool → Bool → Bool → Part
choice a b c = pick a plateau (pick b line (pick c cubic quadratic))

pub reduction_falls : (c : Part) → Falls (reduction2 c)
reduction_falls plateau = constant_falls 1 1
reduction_falls line = falling_falls 1233 933 1000
reduction_falls cubic = inverse_falls 3 30 100
reduction_falls quadratic = inverse_falls 2 20 100

safety_falls : (near far : Bool) → Falls (safety near far)
safety_falls true far = constant_falls 1 1
safety_falls false true = constant_falls 22 29
safety_falls false false = divided_falls 6682 1272 7000

pub factor2_falls : (s : Cut) (e : ℕ) → Falls (factor2 s e)
factor2_falls s e =
    times_falls (times (reduction2 (part2 s)) (tolerance_factor (long s) e)) (safety (s.within 25 100) (s.reaches 2 1))
    (times_falls (reduction2 (part2 s)) (tolerance_factor (long s) e) (reduction_falls (part2 s)) (tolerance_falls (long s) e))
    (safety_falls (s.within 25 100) (s.reaches 2 1))

pub reduction_den : (a b c : Bool) (p q : ℕ) → 0 < q → (b ≡ false → 0 < p) → 0 < (reduction2 (choice a b c)).den p q
reduction_den true b c p q pos some = lit< tt
reduction_den false true c p q pos some = mul-pos {m = 1000} (lit< tt) pos
reduction_den false false true p q pos some = mul-pos {m = 100} (lit< tt) (one-le-pow 3 p (some refl))
reduction_den false false false p q pos some = mul-pos {m = 100} (lit< tt) (one-le-pow 2 p (some refl))

safety_den : (near far : Bool) (p q : ℕ) → 0 < q → 0 < (safety near far).den p q
safety_den true far p q pos = lit< tt
safety_den false true p q pos = lit< tt
safety_den false false p q pos = omega arith

module _ (s : Cut) (law : Lawful s) (k q v : ℕ) (at : Placed s k q v) where
  from_1·5 : s.reaches 15 10 ≡ true → 15 * q ≤ k * 10
  from_1·5 e = placed_from s law k q v at 15 10 30 (lit< tt) refl e

  from_2 : s.reaches 2 1 ≡ true → 2 * q ≤ k * 1
  from_2 e = placed_from s law k q v at 2 1 40 (lit< tt) refl e

  over_1 : s.within 1 1 ≡ false → 1 * q ≤ k * 1
  over_1 e = placed_from s law k q v at 1 1 20 (lit< tt) refl (reaches_over s law 1 1 (lit< tt) e)

  -- raised over 0.25, then over 1, then over 1.5
  pub point : Point s (Same2 s) k q
  point =
      let u : Raised s k q 25 100 = raise s law k q 25 100 (grid_pos s law k q v at) (lit< tt) at.reached in
      let w : Raised s u.p u.r 1 1 = raise s law u.p u.r 1 1 u.positive (lit< tt) u.reached in
      let z : Raised s w.p w.r 15 10 = raise s law w.p w.r 15 10 w.positive (lit< tt) w.reached in
      let from-u : u.p * z.r ≤ z.p * u.r = le_le u.p u.r w.p w.r z.p z.r w.positive w.at_least z.at_least in
      let from-k : k * z.r ≤ z.p * q = le_le k q u.p u.r z.p z.r u.positive u.at_least from-u in
      let up : (a b : ℕ) → a * q ≤ k * b → a * z.r ≤ z.p * b = λ a b h. le_le a b k q z.p z.r (grid_pos s law k q v at) h from-k in
      record {
        p = z.p;
        r = z.r;
        positive = z.positive;
        reached = z.reached;
        inside =
            same2 (branch2 (exactly (z.p // z.r))) (branch2 (as_number s))
            (same_within s law z.p z.r 25 100 z.reached (λ e. lt_le 25 100 u.p u.r z.p z.r u.positive (u.over e) from-u z.positive))
            (same_within s law z.p z.r 1 1 z.reached (λ e. lt_le 1 1 w.p w.r z.p z.r w.positive (w.over e) z.at_least z.positive))
            (same_within s law z.p z.r 15 10 z.reached z.over)
            (same_reaches s law z.p z.r 15 10 z.positive z.reached (λ e. up 15 10 (from_1·5 e)))
            (same_reaches s law z.p z.r 2 1 z.positive z.reached (λ e. up 2 1 (from_2 e)));
        over = from-k;
      }

  -- the straight and the cubic part end before 2, so the grid is the finer one there
  pub reduction_slow : (a b c : Bool) → s.within 1 1 ≡ b → s.within 15 10 ≡ c → (2 * q ≤ k * 1) ⊎ (10000000 ≤ v) → Slow 5000000 5000001 (reduction2 (choice a b c)) k q
  reduction_slow true b c e f g = constant_slow 1 1 5000000 k q
  reduction_slow false true c e f (inl g) = absurd (let near = law.meet k q 1 1 at.reached e in omega (arith, near, g, at.grid, at.fine))
  reduction_slow false true c e f (inr g) =
      let near : k * 1 ≤ 1 * q = law.meet k q 1 1 at.reached e in falling_slow 1233 933 1000 5000000 k q (omega (arith, near, g, at.grid))
  reduction_slow false false true e f (inl g) = absurd (let near = law.meet k q 15 10 at.reached f in omega (arith, near, g, at.grid, at.fine))
  reduction_slow false false true e f (inr g) = cube_slow 30 100 5000000 k q (omega (arith, over_1 e, g, at.grid)) (omega (arith, over_1 e, g, at.grid))
  reduction_slow false false false e f (inl g) = square_slow 20 100 5000000 k q (omega (arith, g, at.grid, at.fine)) (omega (arith, g, at.grid, at.fine))
  reduction_slow false false false e f (inr g) = square_slow 20 100 5000000 k q (omega (arith, over_1 e, g, at.grid)) (omega (arith, over_1 e, g, at.grid))

  safety_slow : (near far : Bool) → s.reaches 2 1 ≡ far → Slow 100000000 100000001 (safety near far) k q
  safety_slow true far e = constant_slow 1 1 100000000 k q
  safety_slow false true e = constant_slow 22 29 100000000 k q
  safety_slow false false e = divided_slow 6682 1272 7000 100000000 k q (omega (arith, at.grid, at.finer e))

  den_pos : (e p r : ℕ) → 0 < r → (s.within 1 1 ≡ false → 0 < p) → 0 < (factor2 s e).den p r
  den_pos e p r pos some =
      mul-pos (mul-pos (reduction_den (s.within 25 100) (s.within 1 1) (s.within 15 10) p r pos some) (tolerance_den (long s) e p r pos))
      (safety_den (s.within 25 100) (s.reaches 2 1) p r pos)

  pub fit2 : (e rise power top load : ℕ) → e ≤ 1000 → 0 < load →
      (5000001 * 100000001 * 100000001) ^ power * 2000000 ^ rise ≤ 2000001 ^ rise * (5000000 * 100000000 * 100000000) ^ power →
      Fit s (Same2 s) (record { rise = rise; power = power; top = top; load = load; factor = factor2 s e }) k q
  fit2 e rise power top load small loaded fine =
      record {
        lawful = law;
        falls = factor2_falls s e;
        loaded = loaded;
        whole = λ p r pos same.
            den_pos e p r pos (λ h. omega (arith, leb-false (p * 1) (1 * r) (ap (λ (B : Branch2). B.up_to_1) same ∙ h)));
        here = den_pos e k q (grid_pos s law k q v at) (λ h. omega (arith, over_1 h));
        next = den_pos e (k + 1) q (grid_pos s law k q v at) (λ h. omega arith);
        point = point;
        c = 5000000 * 100000000 * 100000000;
        d = 5000001 * 100000001 * 100000001;
        some = lit< tt;
        slow =
            times_slow (5000000 * 100000000) (5000001 * 100000001) 100000000 100000001 (times (reduction2 (part2 s)) (tolerance_factor (long s) e))
            (safety (s.within 25 100) (s.reaches 2 1)) k q
            (times_slow 5000000 5000001 100000000 100000001 (reduction2 (part2 s)) (tolerance_factor (long s) e) k q
            (reduction_slow (s.within 25 100) (s.within 1 1) (s.within 15 10) refl refl (far_or_finer s law k q v at))
            (tolerance_slow s law k q v at (long s) e small refl))
            (safety_slow (s.within 25 100) (s.reaches 2 1) refl);
        fine = fine;
      }

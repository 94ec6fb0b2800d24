-- A fraction in the branches of a number, and what the tolerance does there: common to κ1 and κ2.
use mathlib.Core.Path.{◌≡◌}
use mathlib.Core.Bool.{Bool, true, false}
use mathlib.Core.Logic.{◌⊎◌, inl, inr}
use Prim.Native.Nat.{ℕ, ◌+◌, ◌*◌, ◌-◌, ◌≤◌, ◌<◌}
use native.Mathlib.Nat.{mul-pos, mul-le-mul_right}
use native.Mathlib.Omega.{arith}
use lib.Dec.{lit<}
use Rattle.cylinder.specs.Fraction.{◌//◌}
use Rattle.cylinder.specs.Number.{exactly}
use Rattle.cylinder.specs.Resistance.{Branch1, Branch2, branch1, branch2}
use Rattle.cylinder.specs.Cut.{Cut, as_number}
use Rattle.cylinder.specs.WholeCurves.{long, tolerance_factor}
use Rattle.cylinder.proofs.Falls.{Falls, constant_falls, falling_falls}
use Rattle.cylinder.proofs.Slow.{Slow, constant_slow, falling_slow}
use Rattle.cylinder.proofs.Lawful.{Lawful}
use Rattle.cylinder.proofs.Placed.{Placed, placed_below, far_or_finer}

-- p/q lies in the branches of s
abbrev pub Same1 : Cut → ℕ → ℕ → Type 0
Same1 s p q = branch1 (exactly (p // q)) ≡ branch1 (as_number s)

abbrev pub Same2 : Cut → ℕ → ℕ → Type 0
Same2 s p q = branch2 (exactly (p // q)) ≡ branch2 (as_number s)

-- branches with the same answers are the same
abbrev answers1 : Bool → Bool → Bool → Branch1
answers1 u v w = record { up_to_0·4 = u; from_1·2 = v; from_1·5 = w }

pub same1 : (B C : Branch1) → B.up_to_0·4 ≡ C.up_to_0·4 → B.from_1·2 ≡ C.from_1·2 → B.from_1·5 ≡ C.from_1·5 → B ≡ C
same1 B C a b c = all a b c
  where
    all : {u v w u' v' w' : Bool} → u ≡ u' → v ≡ v' → w ≡ w' → answers1 u v w ≡ answers1 u' v' w'
    all a b c = rw (a, b, c)

abbrev answers2 : Bool → Bool → Bool → Bool → Bool → Branch2
answers2 u v w x y = record { up_to_0·25 = u; up_to_1 = v; up_to_1·5 = w; from_1·5 = x; from_2 = y }

pub same2 : (B C : Branch2) → B.up_to_0·25 ≡ C.up_to_0·25 → B.up_to_1 ≡ C.up_to_1 → B.up_to_1·5 ≡ C.up_to_1·5 → B.from_1·5 ≡ C.from_1·5 →
    B.from_2 ≡ C.from_2 → B ≡ C
same2 B C a b c d e = all a b c d e
  where
    all : {u v w x y u' v' w' x' y' : Bool} → u ≡ u' → v ≡ v' → w ≡ w' → x ≡ x' → y ≡ y' → answers2 u v w x y ≡ answers2 u' v' w' x' y'
    all a b c d e = rw (a, b, c, d, e)

-- ---- the tolerance, at an excess of e thousandths

pub tolerance_falls : (l : Bool) (e : ℕ) → Falls (tolerance_factor l e)
tolerance_falls true e = constant_falls (2000 - e) 2000
tolerance_falls false e = falling_falls 3000 e 3000

pub tolerance_den : (l : Bool) (e p q : ℕ) → 0 < q → 0 < (tolerance_factor l e).den p q
tolerance_den true e p q pos = lit< tt
tolerance_den false e p q pos = mul-pos {m = 3000} (lit< tt) pos

pub tolerance_slow : (s : Cut) → Lawful s → (k q v : ℕ) → Placed s k q v → (l : Bool) (e : ℕ) → e ≤ 1000 → long s ≡ l →
    Slow 100000000 100000001 (tolerance_factor l e) k q
tolerance_slow s law k q v at true e le h = constant_slow (2000 - e) 2000 100000000 k q
tolerance_slow s law k q v at false e le h = falling_slow 3000 e 3000 100000000 k q (small (far_or_finer s law k q v at))
  where
    near : k * 10 < 15 * q
    near = placed_below s law k q v at 15 10 h

    -- below 1.5 the grid is the finer one
    small : (2 * q ≤ k * 1) ⊎ (10000000 ≤ v) → e * (k + 1) + e * 100000000 ≤ 3000 * q
    small (inl far) = absurd (omega (arith, near, far))
    small (inr fine) = omega (arith, near, at.grid, mul-le-mul_right (k + 1) le)

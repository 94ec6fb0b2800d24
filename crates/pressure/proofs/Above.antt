-- A fraction that S does not exceed, in the branches of S, near S: the mirror of `Point` of cylinder, for the root of a fraction.
use mathlib.Core.Path.{◌≡◌, refl, sym, ap, ◌∙◌}
use mathlib.Core.Bool.{Bool, true, false}
use mathlib.Core.Logic.{◌≢◌}
use Prim.Native.Nat.{ℕ, zero, suc, ◌+◌, ◌*◌, ◌^◌, ◌≤◌, ◌<◌}
use native.Mathlib.Nat.{mul-le-mul_right, mul-lt-mul_of_pos_right, lt_of_mul-lt-mul_right}
use native.Mathlib.Omega.{arith}
use lib.Dec.{leb, lit<}
use borrow.Author.Tests.{leb-true, leb-false, le-leb, lt-leb}
use Rattle.algebra.proofs.Tests.{clash}
use Rattle.density.proofs.Density.{dense}
use Rattle.cylinder.specs.Fraction.{◌//◌}
use Rattle.cylinder.specs.Number.{exactly}
use Rattle.cylinder.specs.Cut.{Cut, as_number, fraction, root_of}
use Rattle.cylinder.specs.Resistance.{Branch2, branch2}
use Rattle.cylinder.proofs.Lawful.{Lawful, zero_pow}
use Rattle.cylinder.proofs.Placed.{Placed, same_reaches, grid_pos, placed_from}
use Rattle.cylinder.proofs.Bounds.{Point, le_le, lt_le}
use Rattle.cylinder.proofs.Branches.{Same2, same2}
use Rattle.cylinder.proofs.Curve2.{point}
use Rattle.pressure.specs.Gain.{BranchG, branch_g}

-- a fraction below a/b that s does not exceed
pub record Beneath (s : Cut) (a b : ℕ) : Type 0 where
  pub p : ℕ
  pub r : ℕ
  pub positive : 0 < r
  pub under : p * b < a * r
  pub bounded : s.within p r ≡ true

-- where a/b is not reached, something below it is a bound, and a/b is one too
pub record Tight (s : Cut) : Type 0 where
  pub beneath : (a b : ℕ) → s.reaches a b ≡ false → Beneath s a b
  pub bound : (a b : ℕ) → s.reaches a b ≡ false → s.within a b ≡ true

pub root_tight : (k A B : ℕ) → k ≢ 0 → Tight (root_of k (fraction A B))
root_tight k A B nz =
    record {
      beneath = λ a b e. find a b (leb-false (a ^ k * B) (A * b ^ k) e);
      bound = λ a b e. le-leb (A * b ^ k) (a ^ k * B) (omega (arith, leb-false (a ^ k * B) (A * b ^ k) e));
    }
  where
    some : (a b : ℕ) → A * b ^ k < a ^ k * B → 0 < a
    some zero b lt = absurd (omega (arith, ap (λ (z : ℕ). z * B) (zero_pow k nz)))
    some (suc a) b lt = omega arith

    pos_left : (n P a : ℕ) → n < P * a → 0 < P
    pos_left n zero a lt = omega arith
    pos_left n (suc P) a lt = omega arith

    find : (a b : ℕ) → A * b ^ k < a ^ k * B → Beneath (root_of k (fraction A B)) a b
    find a b lt =
        let d = dense k A B b a (some a b lt) (omega arith) in
        record {
          p = d.1;
          r = d.0;
          positive = pos_left (b * d.1) d.0 a d.3;
          under = omega (arith, d.3);
          bounded = le-leb (A * d.0 ^ k) (d.1 ^ k * B) (omega (arith, d.4));
        }

-- k/q ≤ p/r < a/b
le_lt : (k q p r a b : ℕ) → 0 < r → k * r ≤ p * q → p * b < a * r → 0 < q → k * b < a * q
le_lt k q p r a b rpos le lt qpos = lt_of_mul-lt-mul_right r (omega (arith, mul-le-mul_right b le, mul-lt-mul_of_pos_right lt qpos))

-- a bound of s, at or below k/q, and at or below a/b where s is, and below where s is
pub record Lowered (s : Cut) (k q a b : ℕ) : Type 0 where
  pub p : ℕ
  pub r : ℕ
  pub positive : 0 < r
  pub bounded : s.within p r ≡ true
  pub at_most_lem : p * q ≤ k * r
  pub up_to : s.within a b ≡ true → p * b ≤ a * r
  pub below : s.reaches a b ≡ false → p * b < a * r

pub lower : (s : Cut) → Tight s → (k q a b : ℕ) → 0 < q → 0 < b → s.within k q ≡ true → Lowered s k q a b
lower s tight k q a b qpos bpos bounded = go (s.reaches a b) refl (s.within a b) refl
  where
    here : (s.within a b ≡ true → k * b ≤ a * q) → (s.reaches a b ≡ false → k * b < a * q) → Lowered s k q a b
    here f g = record { p = k; r = q; positive = qpos; bounded = bounded; at_most_lem = omega arith; up_to = f; below = g }

    -- s is below a/b: the smaller of k/q and a bound below a/b
    under : Beneath s a b → Lowered s k q a b
    under u = pick_smaller (leb (k * u.r) (u.p * q)) refl
      where
        pick_smaller : (t : Bool) → leb (k * u.r) (u.p * q) ≡ t → Lowered s k q a b
        pick_smaller true e =
            let lt : k * b < a * q = le_lt k q u.p u.r a b u.positive (leb-true (k * u.r) (u.p * q) e) u.under qpos in
            here (λ _. omega arith) (λ _. lt)
        pick_smaller false e =
            record {
              p = u.p;
              r = u.r;
              positive = u.positive;
              bounded = u.bounded;
              at_most_lem = omega (arith, leb-false (k * u.r) (u.p * q) e);
              up_to = λ _. omega (arith, u.under);
              below = λ _. u.under;
            }

    -- s is a/b, or over it
    level : s.reaches a b ≡ true → s.within a b ≡ true → (t : Bool) → leb (k * b) (a * q) ≡ t → Lowered s k q a b
    level r w true e = here (λ _. leb-true (k * b) (a * q) e) (λ n. absurd (clash r n))
    level r w false e =
        record {
          p = a;
          r = b;
          positive = bpos;
          bounded = w;
          at_most_lem = omega (arith, leb-false (k * b) (a * q) e);
          up_to = λ _. omega arith;
          below = λ n. absurd (clash r n);
        }

    go : (v : Bool) → s.reaches a b ≡ v → (w : Bool) → s.within a b ≡ w → Lowered s k q a b
    go false e w f = under (tight.beneath a b e)
    go true e true f = level e f (leb (k * b) (a * q)) refl
    go true e false f = here (λ w. absurd (clash w f)) (λ n. absurd (clash e n))

module _ (s : Cut) (law : Lawful s) where
  -- p/r is a bound: it answers at a/b as s does, if it is not over a/b where s is not
  pub bound_within : (p r a b : ℕ) → 0 < r → 0 < b → s.within p r ≡ true → (s.within a b ≡ true → p * b ≤ a * r) → leb (p * b) (a * r) ≡ s.within a b
  bound_within p r a b rpos bpos w down = go (s.within a b) refl
    where
      go : (v : Bool) → s.within a b ≡ v → leb (p * b) (a * r) ≡ s.within a b
      go true e = le-leb (p * b) (a * r) (down e) ∙ sym e
      go false e =
          let o = law.above a b bpos e in
          lt-leb (p * b) (a * r) (lt_le a b o.p' o.q' p r o.positive o.over (law.meet o.p' o.q' p r o.reached w) rpos) ∙ sym e

  pub bound_reaches : (p r a b : ℕ) → s.within p r ≡ true → (s.reaches a b ≡ false → p * b < a * r) → leb (a * r) (p * b) ≡ s.reaches a b
  bound_reaches p r a b w down = go (s.reaches a b) refl
    where
      go : (v : Bool) → s.reaches a b ≡ v → leb (a * r) (p * b) ≡ s.reaches a b
      go true e = le-leb (a * r) (p * b) (law.meet a b p r e w) ∙ sym e
      go false e = lt-leb (a * r) (p * b) (down e) ∙ sym e

-- p/r lies in the branches of s, those of the gain too
abbrev pub SameG : Cut → ℕ → ℕ → Type 0
SameG s p r = branch_g (exactly (p // r)) ≡ branch_g (as_number s)

abbrev answers_g : Branch2 → Bool → BranchG
answers_g B b = record { curves = B; from_1 = b }

pub same_g : (B C : BranchG) → B.curves ≡ C.curves → B.from_1 ≡ C.from_1 → B ≡ C
same_g B C a b = both a b
  where
    both : {x y : Branch2} {u v : Bool} → x ≡ y → u ≡ v → answers_g x u ≡ answers_g y v
    both a b = rw (a, b)

-- a bound of s in its branches, at or below (k + 1)/q
pub record Ceiling (s : Cut) (k q : ℕ) : Type 0 where
  pub p : ℕ
  pub r : ℕ
  pub positive : 0 < r
  pub bounded : s.within p r ≡ true
  pub inside : SameG s p r
  pub under : p * q ≤ (k + 1) * r

-- a fraction that s reaches in its branches, at or over k/q
abbrev pub Floor : Cut → ℕ → ℕ → Type 0
Floor s = Point s (SameG s)

module _ (s : Cut) (law : Lawful s) (k q v : ℕ) (at : Placed s k q v) where
  -- lowered to 2, then to 1.5, then to 1; 0.25 is far below
  pub ceiling : Tight s → s.within 25 100 ≡ false → Ceiling s k q
  ceiling tight over =
      let u : Lowered s (k + 1) q 2 1 = lower s tight (k + 1) q 2 1 (grid_pos s law k q v at) (lit< tt) (tight.bound (k + 1) q at.missed) in
      let w : Lowered s u.p u.r 15 10 = lower s tight u.p u.r 15 10 u.positive (lit< tt) u.bounded in
      let z : Lowered s w.p w.r 1 1 = lower s tight w.p w.r 1 1 w.positive (lit< tt) w.bounded in
      let to-u : z.p * u.r ≤ u.p * z.r = le_le z.p z.r w.p w.r u.p u.r w.positive z.at_most_lem w.at_most_lem in
      let to-k : z.p * q ≤ (k + 1) * z.r = le_le z.p z.r u.p u.r (k + 1) q u.positive to-u u.at_most_lem in
      record {
        p = z.p;
        r = z.r;
        positive = z.positive;
        bounded = z.bounded;
        inside =
            same_g (branch_g (exactly (z.p // z.r))) (branch_g (as_number s))
            (same2 (branch2 (exactly (z.p // z.r))) (branch2 (as_number s))
            (bound_within s law z.p z.r 25 100 z.positive (lit< tt) z.bounded (λ e. absurd {A = z.p * 100 ≤ 25 * z.r} (clash e over)))
            (bound_within s law z.p z.r 1 1 z.positive (lit< tt) z.bounded z.up_to)
            (bound_within s law z.p z.r 15 10 z.positive (lit< tt) z.bounded
            (λ e. le_le z.p z.r w.p w.r 15 10 w.positive z.at_most_lem (w.up_to e)))
            (bound_reaches s law z.p z.r 15 10 z.bounded (λ e. le_lt z.p z.r w.p w.r 15 10 w.positive z.at_most_lem (w.below e) z.positive))
            (bound_reaches s law z.p z.r 2 1 z.bounded (λ e. le_lt z.p z.r u.p u.r 2 1 u.positive to-u (u.below e) z.positive)))
            (bound_reaches s law z.p z.r 1 1 z.bounded z.below);
        under = to-k;
      }

  -- the point of the curves is in the branch of the gain too
  pub floor : Floor s k q
  floor =
      let z : Point s (Same2 s) k q = point s law k q v at in
      record {
        p = z.p;
        r = z.r;
        positive = z.positive;
        reached = z.reached;
        inside =
            same_g (branch_g (exactly (z.p // z.r))) (branch_g (as_number s)) z.inside
            (same_reaches s law z.p z.r 1 1 z.positive z.reached
            (λ e. le_le 1 1 k q z.p z.r (grid_pos s law k q v at) (placed_from s law k q v at 1 1 20 (lit< tt) refl e) z.over));
        over = z.over;
      }

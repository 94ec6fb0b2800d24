-- Bounds of a term from the formula at two neighbouring points of the grid: what it reaches at k/q the term reaches, and what it misses at (k + 1)/q the term misses.
use mathlib.Core.Path.{◌≡◌, refl}
use mathlib.Core.Bool.{Bool, true, false}
use Prim.Native.Nat.{ℕ, ◌+◌, ◌*◌, ◌^◌, ◌≤◌, ◌<◌}
use native.Mathlib.Nat.{mul-le-mul_right, lt_of_not-le, lt_of_mul-lt-mul_right, mul-lt-mul_of_pos_right, one-le-pow}
use native.Mathlib.Omega.{arith}
use lib.Dec.{leb, lit<}
use borrow.Author.Tests.{leb-true, leb-false, le-leb}
use Rattle.algebra.proofs.Fractions.{carry, lift}
use Rattle.algebra.proofs.Powers.{cross_pow}
use Rattle.cylinder.specs.Cut.{Cut}
use Rattle.cylinder.specs.WholeTerm.{Term, formula}
use Rattle.algebra.proofs.Tests.{clash}
use Rattle.cylinder.proofs.Falls.{Falls}
use Rattle.cylinder.proofs.Lawful.{Lawful, Beyond}
use Rattle.cylinder.proofs.Slow.{Slow, accurate}

-- Reaches of Sum in whole numbers, for a stress above 0: `same p q` says that p/q is in the branches of s
pub record Attains (s : Cut) (same : ℕ → ℕ → Type 0) (t : Term) (b n : ℕ) : Type 0 where
  pub p : ℕ
  pub q : ℕ
  pub positive : 0 < q
  pub reached : s.reaches p q ≡ true
  pub inside : same p q
  pub holds : formula t p q b n ≡ true

-- from p/q up to p'/q' the formula does not fall
pub formula_rises : (t : Term) → Falls t.factor → 0 < t.load → (p q p' q' b n : ℕ) → 0 < t.factor.den p q → p * q' ≤ p' * q →
    formula t p q b n ≡ true → formula t p' q' b n ≡ true
formula_rises t falls pos p q p' q' b n dpos le h =
    le-leb _ _
    (lift (b ^ t.rise) (n ^ t.rise) t.top t.load _ _ _ _ pos (one-le-pow t.power (t.factor.den p q) dpos)
    (cross_pow (t.factor.num p q) (t.factor.den p q) (t.factor.num p' q') (t.factor.den p' q') t.power (falls p q p' q' le))
    (leb-true _ _ h))

-- and what reaches b/n reaches what is below
pub formula_down : (t : Term) (p q b n b' n' : ℕ) → 0 < n → b' * n ≤ b * n' → formula t p q b n ≡ true → formula t p q b' n' ≡ true
formula_down t p q b n b' n' pos le h =
    let X : ℕ = t.top * t.factor.num p q ^ t.power in
    let Y : ℕ = t.load * t.factor.den p q ^ t.power in
    le-leb (b' ^ t.rise * X) (Y * n' ^ t.rise)
    (omega (
      arith,
      carry X Y (b ^ t.rise) (n ^ t.rise) (b' ^ t.rise) (n' ^ t.rise) (one-le-pow t.rise n pos) (cross_pow b n b' n' t.rise le)
          (omega (arith, leb-true (b ^ t.rise * X) (Y * n ^ t.rise) h)),
    ))

-- x/y ≤ p/q ≤ p'/q'
pub le_le : (x y p q p' q' : ℕ) → 0 < q → x * q ≤ p * y → p * q' ≤ p' * q → x * q' ≤ p' * y
le_le x y p q p' q' pos h le = omega (arith, carry q' p' p q x y pos h (omega (arith, le)))

-- x/y < p/q ≤ p'/q'
pub lt_le : (x y p q p' q' : ℕ) → 0 < q → x * q < p * y → p * q' ≤ p' * q → 0 < q' → x * q' < p' * y
lt_le x y p q p' q' pos lt le pos' = lt_of_mul-lt-mul_right q (omega (arith, mul-lt-mul_of_pos_right lt pos', mul-le-mul_right y le))

-- a fraction that s reaches, at or over k/q, and over a/b where s is
pub record Raised (s : Cut) (k q a b : ℕ) : Type 0 where
  pub p : ℕ
  pub r : ℕ
  pub positive : 0 < r
  pub reached : s.reaches p r ≡ true
  pub at_least : k * r ≤ p * q
  pub over : s.within a b ≡ false → a * r < p * b

-- k/q may stand on the open end of a branch, where s is just over it: then there is a fraction between
pub raise : (s : Cut) → Lawful s → (k q a b : ℕ) → 0 < q → 0 < b → s.reaches k q ≡ true → Raised s k q a b
raise s l k q a b qpos bpos reached = go (s.within a b) refl (leb (k * b) (a * q)) refl
  where
    here : (s.within a b ≡ false → a * q < k * b) → Raised s k q a b
    here f = record { p = k; r = q; positive = qpos; reached = reached; at_least = omega arith; over = f }

    there : k * b ≤ a * q → Beyond s a b → Raised s k q a b
    there le o =
        record {
          p = o.p';
          r = o.q';
          positive = o.positive;
          reached = o.reached;
          at_least = le_le k q a b o.p' o.q' bpos le (omega (arith, o.over));
          over = λ e. o.over;
        }

    go : (w : Bool) → s.within a b ≡ w → (t : Bool) → leb (k * b) (a * q) ≡ t → Raised s k q a b
    go true e t f = here (λ e'. absurd (clash e e'))
    go false e true f = there (leb-true _ _ f) (l.above a b bpos e)
    go false e false f = here (λ e'. leb-false _ _ f)

-- a fraction that s reaches, in its branches, at or over k/q
pub record Point (s : Cut) (same : ℕ → ℕ → Type 0) (k q : ℕ) : Type 0 where
  pub p : ℕ
  pub r : ℕ
  pub positive : 0 < r
  pub reached : s.reaches p r ≡ true
  pub inside : same p r
  pub over : k * r ≤ p * q

-- all that the bounds of a term rest on
pub record Fit (s : Cut) (same : ℕ → ℕ → Type 0) (t : Term) (k q : ℕ) : Type 0 where
  pub lawful : Lawful s
  pub falls : Falls t.factor
  pub loaded : 0 < t.load
  pub whole : (p r : ℕ) → 0 < r → same p r → 0 < t.factor.den p r
  pub here : 0 < t.factor.den k q
  pub next : 0 < t.factor.den (k + 1) q
  pub point : Point s same k q
  pub c : ℕ
  pub d : ℕ
  pub some : 0 < c
  pub slow : Slow c d t.factor k q
  pub fine : d ^ t.power * 2000000 ^ t.rise ≤ 2000001 ^ t.rise * c ^ t.power

module _ (s : Cut) (same : ℕ → ℕ → Type 0) (t : Term) (k q : ℕ) (f : Fit s same t k q) where
  pub fit_lower : (b n : ℕ) → formula t k q b n ≡ true → Attains s same t b n
  fit_lower b n holds =
      let u = f.point in
      record {
        p = u.p;
        q = u.r;
        positive = u.positive;
        reached = u.reached;
        inside = u.inside;
        holds = formula_rises t f.falls f.loaded k q u.p u.r b n f.here u.over holds;
      }

  pub fit_upper : (h N : ℕ) → s.reaches (k + 1) q ≡ false → formula t (k + 1) q h N ≡ false → (b n : ℕ) → 0 < n → Attains s same t b n → b * N < h * n
  fit_upper h N out missed b n npos r =
      lt_of_not-le λ le.
      clash
      (formula_down t (k + 1) q b n h N npos le
      (formula_rises t f.falls f.loaded r.p r.q (k + 1) q b n (f.whole r.p r.q r.positive r.inside) before r.holds))
      missed
    where
      before : r.p * q ≤ (k + 1) * r.q
      before =
          omega (arith, lt_of_not-le {n = (k + 1) * r.q} {m = r.p * q} (λ le. clash (f.lawful.down r.p r.q (k + 1) q r.positive le r.reached) out))

  -- a step of the grid gains less than a millionth beyond the one that the formula misses already
  pub fit_next : (l : ℕ) → l < 2000000 → formula t k q (l + 1) 1000000 ≡ false → formula t (k + 1) q (l + 2) 1000000 ≡ false
  fit_next l small miss = go (formula t (k + 1) q (l + 2) 1000000) refl
    where
      go : (v : Bool) → formula t (k + 1) q (l + 2) 1000000 ≡ v → formula t (k + 1) q (l + 2) 1000000 ≡ false
      go false e = e
      go true e =
          absurd
          (let lt : (l + 2) * 2000000 < (l + 1) * 2000001 =
          accurate t k q 1000000 f.c f.d 2000000 2000001 (l + 1) (l + 2) f.loaded f.next f.some (lit< tt) f.slow f.fine miss e in
          omega arith)

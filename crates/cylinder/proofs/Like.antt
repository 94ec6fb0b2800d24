-- Two ways to write one fraction: f is x/y, expanded or reduced. The operations and tests on fractions go by this.
use mathlib.Core.Path.{◌≡◌, refl, sym, ap, ap₂, ◌∙◌}
use mathlib.Core.Bool.{Bool, true, false}
use Prim.Native.Nat.{ℕ, ◌+◌, ◌*◌, ◌-◌, ◌^◌, ◌<◌}
use native.Mathlib.Nat.{mul-pos, mul-sub, mul-le-mul_left, le_of_mul-le-mul_left, not-le_of_lt, lt_of_not-le, one-le-pow}
use native.Mathlib.Omega.{arith}
use lib.Dec.{leb, lit<}
use borrow.Author.Tests.{leb-true, leb-false, le-leb, lt-leb}
use Rattle.cylinder.specs.Fraction.{Fraction, ◌//◌, ◌⊕◌, ◌⊖◌, ◌⊗◌, ◌⊘◌, ◌↑◌, ◌at_most◌}
use Rattle.algebra.proofs.Powers.{mul_pow}

-- where m f's parts are k times x and y. Either may be 0.
pub record Like (f : Fraction) (x y : ℕ) : Type 0 where
  pub m : ℕ
  pub k : ℕ
  pub m_pos : 0 < m
  pub k_pos : 0 < k
  pub num : m * f.num ≡ k * x
  pub den : m * f.den ≡ k * y

-- a test is the same on both sides' multiples
pub leb_like : (m k a b x y : ℕ) → 0 < m → 0 < k → m * a ≡ k * x → m * b ≡ k * y → leb a b ≡ leb x y
leb_like m k a b x y mpos kpos e f = go (leb x y) refl
  where
    go : (v : Bool) → leb x y ≡ v → leb a b ≡ leb x y
    go true h =
        le-leb a b (le_of_mul-le-mul_left {k = m} (omega (arith, mul-le-mul_left k (leb-true x y h))) mpos) ∙ sym h
    go false h = lt-leb a b (lt_of_not-le (λ le. not-le_of_lt (leb-false x y h) (le_of_mul-le-mul_left {k = k} (omega (arith, mul-le-mul_left m le)) kpos))) ∙ sym h

both : (m a k x m' a' k' x' : ℕ) → m * a ≡ k * x → m' * a' ≡ k' * x' → m * m' * (a * a') ≡ k * k' * (x * x')
both m a k x m' a' k' x' e f = omega (arith, ap₂ (λ (u v : ℕ). u * v) e f)

pub self : (a b : ℕ) → Like (a // b) a b
self a b = record { m = 1; k = 1; m_pos = lit< tt; k_pos = lit< tt; num = refl; den = refl }

-- reduced or expanded further
pub again : {f : Fraction} {x y : ℕ} → Like f x y → (m k u v : ℕ) → 0 < m → 0 < k → m * x ≡ k * u → m * y ≡ k * v → Like f u v
again {f} {x} {y} h m k u v mpos kpos e g =
    record {
      m = m * h.m;
      k = k * h.k;
      m_pos = mul-pos mpos h.m_pos;
      k_pos = mul-pos kpos h.k_pos;
      num = omega (arith, ap (λ (z : ℕ). m * z) h.num, ap (λ (z : ℕ). h.k * z) e);
      den = omega (arith, ap (λ (z : ℕ). m * z) h.den, ap (λ (z : ℕ). h.k * z) g);
    }

pub times : {f g : Fraction} {x y u v : ℕ} → Like f x y → Like g u v → Like (f ⊗ g) (x * u) (y * v)
times {f} {g} {x} {y} {u} {v} a b =
    record {
      m = a.m * b.m;
      k = a.k * b.k;
      m_pos = mul-pos a.m_pos b.m_pos;
      k_pos = mul-pos a.k_pos b.k_pos;
      num = both _ _ _ _ _ _ _ _ a.num b.num;
      den = both _ _ _ _ _ _ _ _ a.den b.den;
    }

pub per : {f g : Fraction} {x y u v : ℕ} → Like f x y → Like g u v → Like (f ⊘ g) (x * v) (y * u)
per {f} {g} {x} {y} {u} {v} a b =
    record {
      m = a.m * b.m;
      k = a.k * b.k;
      m_pos = mul-pos a.m_pos b.m_pos;
      k_pos = mul-pos a.k_pos b.k_pos;
      num = both _ _ _ _ _ _ _ _ a.num b.den;
      den = both _ _ _ _ _ _ _ _ a.den b.num;
    }

pub plus : {f g : Fraction} {x y u v : ℕ} → Like f x y → Like g u v → Like (f ⊕ g) (x * v + u * y) (y * v)
plus {f} {g} {x} {y} {u} {v} a b =
    record {
      m = a.m * b.m;
      k = a.k * b.k;
      m_pos = mul-pos a.m_pos b.m_pos;
      k_pos = mul-pos a.k_pos b.k_pos;
      num =
          omega (
            arith,
            both a.m f.num a.k x b.m g.den b.k v a.num b.den,
            both b.m g.num b.k u a.m f.den a.k y b.num a.den,
          );
      den = both _ _ _ _ _ _ _ _ a.den b.den;
    }

less : (m k a b x y : ℕ) → m * a ≡ k * x → m * b ≡ k * y → m * (a - b) ≡ k * (x - y)
less m k a b x y e f = omega (arith, mul-sub m a b, mul-sub k x y)

pub minus : {f g : Fraction} {x y u v : ℕ} → Like f x y → Like g u v → Like (f ⊖ g) (x * v - u * y) (y * v)
minus {f} {g} {x} {y} {u} {v} a b =
    record {
      m = a.m * b.m;
      k = a.k * b.k;
      m_pos = mul-pos a.m_pos b.m_pos;
      k_pos = mul-pos a.k_pos b.k_pos;
      num =
          less (a.m * b.m) (a.k * b.k) (f.num * g.den) (g.num * f.den) (x * v) (u * y) (both _ _ _ _ _ _ _ _ a.num b.den)
          (omega (arith, both b.m g.num b.k u a.m f.den a.k y b.num a.den));
      den = both _ _ _ _ _ _ _ _ a.den b.den;
    }

pub power : {f : Fraction} {x y : ℕ} → Like f x y → (n : ℕ) → Like (f ↑ n) (x ^ n) (y ^ n)
power {f} {x} {y} a n =
    record {
      m = a.m ^ n;
      k = a.k ^ n;
      m_pos = one-le-pow n a.m a.m_pos;
      k_pos = one-le-pow n a.k a.k_pos;
      num = sym (mul_pow a.m f.num n) ∙ ap (λ (z : ℕ). z ^ n) a.num ∙ mul_pow a.k x n;
      den = sym (mul_pow a.m f.den n) ∙ ap (λ (z : ℕ). z ^ n) a.den ∙ mul_pow a.k y n;
    }

pub at_most_lem : {f g : Fraction} {x y u v : ℕ} → Like f x y → Like g u v → (f at_most g) ≡ leb (x * v) (u * y)
at_most_lem {f} {g} {x} {y} {u} {v} a b =
    leb_like (a.m * b.m) (a.k * b.k) (f.num * g.den) (g.num * f.den) (x * v) (u * y) (mul-pos a.m_pos b.m_pos) (mul-pos a.k_pos b.k_pos)
    (both _ _ _ _ _ _ _ _ a.num b.den) (omega (arith, both b.m g.num b.k u a.m f.den a.k y b.num a.den))

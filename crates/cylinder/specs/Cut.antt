-- A number by its tests on two whole numbers p, q: it reaches p/q, and is within p/q.
-- Nobody has to believe this: proofs/Agree.antt has that they are the tests of Resistance.
use Rattle.std.specs.Prelude.{ℕ, ◌*◌, ◌-◌, ◌^◌, Bool, ◌&&◌, ◌||◌, leb}
use Rattle.cylinder.specs.Number.{Number}

pub record Cut : Type 0 where
  pub reaches : ℕ → ℕ → Bool
  pub within : ℕ → ℕ → Bool

-- the same as a number
abbrev pub as_number : Cut → Number
as_number c = record { reaches = λ f. c.reaches f.num f.den; within = λ f. c.within f.num f.den }

-- the fraction a/b
abbrev pub fraction : ℕ → ℕ → Cut
fraction a b = record { reaches = λ p q. leb (p * b) (a * q); within = λ p q. leb (a * q) (p * b) }

-- the number whose power k is s
abbrev pub root_of : ℕ → Cut → Cut
root_of k s = record { reaches = λ p q. s.reaches (p ^ k) (q ^ k); within = λ p q. s.within (p ^ k) (q ^ k) }

-- d / (c + e √(x/y)), where e and x are positive: p/q is at most that where e p √(x/y) ≤ d q - c p
abbrev pub over_sum : ℕ → ℕ → ℕ → ℕ → ℕ → Cut
over_sum d c e x y =
    record {
      reaches = λ p q. leb ((e * p) ^ 2 * x) ((d * q - c * p) ^ 2 * y);
      within = λ p q. leb ((d * q - c * p) ^ 2 * y) ((e * p) ^ 2 * x);
    }

-- d / (c - e √(x/y)), or no number at all where that is not positive: p/q is at most that where c p - d q ≤ e p √(x/y)
abbrev pub over_difference : ℕ → ℕ → ℕ → ℕ → ℕ → Cut
over_difference d c e x y =
    record {
      reaches = λ p q. leb ((c * p - d * q) ^ 2 * y) ((e * p) ^ 2 * x);
      within = λ p q. leb (d * q) (c * p) && leb ((e * p) ^ 2 * x) ((c * p - d * q) ^ 2 * y);
    }

-- the smaller of two numbers
abbrev pub smaller : Cut → Cut → Cut
smaller s t = record { reaches = λ p q. s.reaches p q && t.reaches p q; within = λ p q. s.within p q || t.within p q }

-- m √(x/y) ≤ n
abbrev pub root_at_most : ℕ → ℕ → ℕ → ℕ → Bool
root_at_most m x y n = leb (m ^ 2 * x) (n ^ 2 * y)

abbrev pub root_at_least : ℕ → ℕ → ℕ → ℕ → Bool
root_at_least m x y n = leb (n ^ 2 * y) (m ^ 2 * x)

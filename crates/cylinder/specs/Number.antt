-- SCOPE 5.3: a number that need not be a fraction is known by the fractions that it reaches (is at least) and those that it is within (is at most).
use Rattle.std.specs.Prelude.{Bool, ◌&&◌, ◌||◌}
use Rattle.cylinder.specs.Fraction.{Fraction, ◌⊖◌, ◌⊗◌, ◌⊘◌, ◌↑◌, ◌at_most◌}

pub record Number : Type 0 where
  pub reaches : Fraction → Bool
  pub within : Fraction → Bool

-- the fraction f itself
abbrev pub exactly : Fraction → Number
exactly f = record { reaches = λ x. x at_most f; within = λ x. f at_most x }

-- v √w
abbrev pub times_root : Fraction → Fraction → Number
times_root v w = record { reaches = λ x. x ↑ 2 at_most v ↑ 2 ⊗ w; within = λ x. v ↑ 2 ⊗ w at_most x ↑ 2 }

-- u + v √w: it is at most x if u ≤ x and v √w ≤ x - u, and at least x if x - u, or 0 where that is negative, is at most v √w
abbrev pub plus_root : Fraction → Fraction → Fraction → Number
plus_root u v w =
    record {
      reaches = λ x. (x ⊖ u) ↑ 2 at_most v ↑ 2 ⊗ w;
      within = λ x. (u at_most x) && (v ↑ 2 ⊗ w at_most (x ⊖ u) ↑ 2);
    }

-- u - v √w: it is at most x if u - x, or 0 where that is negative, is at most v √w, and at least x if x ≤ u and v √w ≤ u - x
abbrev pub minus_root : Fraction → Fraction → Fraction → Number
minus_root u v w =
    record {
      reaches = λ x. (x at_most u) && (v ↑ 2 ⊗ w at_most (u ⊖ x) ↑ 2);
      within = λ x. (u ⊖ x) ↑ 2 at_most v ↑ 2 ⊗ w;
    }

-- f a, where f is above 0: it is at least x if a is at least x/f
abbrev pub scaled : Fraction → Number → Number
scaled f a = record { reaches = λ x. a.reaches (x ⊘ f); within = λ x. a.within (x ⊘ f) }

-- the larger of two numbers
abbrev pub larger : Number → Number → Number
larger a b = record { reaches = λ x. a.reaches x || b.reaches x; within = λ x. a.within x && b.within x }

-- u^1.25: it is at least x if u⁵ is at least x⁴
abbrev pub power_1·25 : Fraction → Number
power_1·25 u = record { reaches = λ x. x ↑ 4 at_most u ↑ 5; within = λ x. u ↑ 5 at_most x ↑ 4 }

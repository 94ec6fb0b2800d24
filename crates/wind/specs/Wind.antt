-- SCOPE 22: DIN 18800-4, element 424: the gust pressure of wind turned into an even pressure, and that into a ring stress in whole kN/m².
-- Decision 73: element 425's ψ, which the standard permits for very short cylinders, is not used.
use Rattle.std.specs.Prelude.{ℕ, zero, suc, ◌<◌, ◌≡◌, Bool, true, false, ◌&&◌, ◌||◌}
use Rattle.algebra.specs.Choice.{pick}
use Rattle.cylinder.specs.declared.Cylinder.{Cylinder}
use Rattle.cylinder.specs.Fraction.{Fraction, ◌//◌, whole, tenths, hundredths, ◌⊖◌, ◌⊗◌, ◌↑◌, ◌at_most◌}
use Rattle.cylinder.specs.Number.{Number, exactly, scaled}
use Rattle.cylinder.specs.Ideal.{Cφ, r/t, r/l}

-- ---- three further forms of a number

-- f + g ⁴√h: it is at most x if f ≤ x and g ⁴√h ≤ x - f, and at least x if x - f, or 0 where that is negative, is at most g ⁴√h
abbrev pub plus_fourth_root : Fraction → Fraction → Fraction → Number
plus_fourth_root f g h =
    record {
      reaches = λ x. (x ⊖ f) ↑ 4 at_most g ↑ 4 ⊗ h;
      within = λ x. (f at_most x) && (g ↑ 4 ⊗ h at_most (x ⊖ f) ↑ 4);
    }

-- the smaller of two numbers
abbrev pub smaller : Number → Number → Number
smaller a b = record { reaches = λ x. a.reaches x && b.reaches x; within = λ x. a.within x || b.within x }

-- f + a: it is at most x if f ≤ x and a is at most x - f, and at least x if x ≤ f or a is at least x - f
abbrev pub plus : Fraction → Number → Number
plus f a = record { reaches = λ x. (x at_most f) || a.reaches (x ⊖ f); within = λ x. (f at_most x) && a.within (x ⊖ f) }

-- ---- the pressure and the stress

-- (47): 0.46 (1 + 0.1 √(Cφ (r/l) √(r/t))), at most 1; the fourth power of the root is (Cφ (r/l))² (r/t)
abbrev pub δ : Cylinder → Number
δ s = smaller (scaled (hundredths 0_46) (plus_fourth_root (whole 1) (tenths 0_1) ((Cφ s ⊗ r/l s) ↑ 2 ⊗ r/t s))) (exactly (whole 1))

-- (46): the even pressure as a part of the gust pressure, with 0.6 more where the shell is open or vented (v = 1)
abbrev pub even_part : Cylinder → ℕ → Number
even_part s v = plus (tenths 0_6 ⊗ whole v) (δ s)

-- pressure times r/t in kN/m², of a gust pressure of w N/m². For w = 0 every fraction is at least it, as it should: x ⊘ 0 is above all.
abbrev pub exact_stress : Cylinder → ℕ → ℕ → Number
exact_stress s w v = scaled (w // 1000 ⊗ r/t s) (even_part s v)

-- ---- the smallest whole number that is at least that

-- whether m kN/m² are enough
abbrev pub is_enough : Cylinder → ℕ → ℕ → ℕ → Bool
is_enough s w v m = (exact_stress s w v).within (whole m)

-- the smallest number up to `most` that passes, found by counting up; `most` where none before it does
unfoldable pub smallest : (ℕ → Bool) → ℕ → ℕ
smallest p zero = 0
smallest p (suc most) = pick (p 0) 0 (suc (smallest (λ m. p (suc m)) most))

-- 40,000 are always enough: r/t is at most 2,500, the part at most 1.6, the gust pressure at most 10 kN/m² (`most_enough`, proofs/Stress.antt)
unfoldable pub wind_stress : Cylinder → ℕ → ℕ → ℕ
unfolding smallest
wind_stress s w v = smallest (is_enough s w v) 40000

-- m kN/m² are enough, and no fewer are: so it is with `wind_stress`, and with no other number (`wind_stress_lem`, `wind_stress_only`, proofs/Stress.antt)
pub record WindStress (s : Cylinder) (w v m : ℕ) : Type 0 where
  pub at_least : is_enough s w v m ≡ true
  pub no_less : (k : ℕ) → k < m → is_enough s w v k ≡ false

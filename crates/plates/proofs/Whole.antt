-- A plate whose stresses are whole numbers is judged as its line is: a fraction of kN/m² has the same L and U in larger terms. Assumes nothing.
use mathlib.Core.Path.{◌≡◌, refl, sym, ap, ◌∙◌}
use mathlib.Core.Bool.{◌&&◌}
use mathlib.Core.List.{[], ◌∷◌}
use Prim.Native.Nat.{ℕ, zero, suc, ◌+◌, ◌*◌, ◌/◌, ◌^◌, ◌<◌, min}
use native.Mathlib.Nat.{not-suc-le-zero, one-mul, zero-mul, zero-lt-suc, mul-pos, one-le-pow}
use lib.Dec.{leb, lit<}
use Rattle.pressure.specs.declared.Order.TheVariants.{PressureFirst}
use Rattle.algebra.specs.Bisection.{bisect}
use Rattle.algebra.proofs.Ring.{ring, quoted}
use Rattle.cylinder.specs.declared.Cylinder.{Cylinder}
use Rattle.cylinder.specs.Fraction.{Fraction, ◌//◌, whole}
use Rattle.cylinder.specs.Factor.{Factor}
use Rattle.cylinder.specs.Cut.{Cut}
use Rattle.cylinder.specs.WholeIdeal.{axial_cut, ring_cut, shear_cut}
use Rattle.cylinder.specs.WholeTerm.{Term, formula}
use Rattle.cylinder.specs.WholeCurves.{factor1, factor2}
use Rattle.cylinder.specs.WholeStress.{excess}
use Rattle.cylinder.specs.Search.{Pair, grid, place, most, around, term_bounds, axial_bounds, ring_bounds, shear_bounds, sum_bounds}
use Rattle.cylinder.proofs.Like.{leb_like}
use Rattle.answer.specs.Answering.{judgement_of}
use Rattle.record.specs.declared.Ring.TheVariants.{Stress}
use Rattle.record.specs.declared.Record.{Record}
use Rattle.record.specs.Limits.{pressure_of, cylinder_of, record_of}
use Rattle.record.specs.Right.{ring_stress}
use Rattle.record.specs.Unpressed.{unpressed_bounds}
use Rattle.record.specs.Answering.{judgement_of_record}
use Rattle.record.proofs.Pressure.{plain_bounds}
use Rattle.plates.specs.declared.Shell.{Shell}
use Rattle.plates.specs.declared.Forces.{Forces}
use Rattle.plates.specs.Plates.{wall_of, stress_of}
use Rattle.plates.specs.Choosing.{judgement_by, plate_judgement}

-- ---- a stress above 0, and one of 0

loaded : (q x : ℕ) (c : Cut) (t : Term) → 0 < x → term_bounds q x c t ≡ around (most t (place c q) q)
unfolding term_bounds
loaded q zero c t h = absurd (not-suc-le-zero h)
loaded q (suc x) c t h = refl

unloaded : (q : ℕ) (c : Cut) (t u : Term) → term_bounds q 0 c u ≡ term_bounds q 0 c t
unfolding term_bounds
unloaded q c t u = refl

-- ---- two terms whose tops and loads are in the same ratio

out_top : (B T K X : ℕ) → 1 * (B * (K * T * X)) ≡ K * (B * (T * X))
out_top B T K X = ring (B ∷ T ∷ K ∷ X ∷ []) (search quoted depth 60 fits 100000) refl

out_load : (L K Y N : ℕ) → 1 * (K * L * Y * N) ≡ K * (L * Y * N)
out_load L K Y N = ring (L ∷ K ∷ Y ∷ N ∷ []) (search quoted depth 60 fits 100000) refl

module _ (t u : Term) (K : ℕ) (pos : 0 < K) (rise : u.rise ≡ t.rise) (power : u.power ≡ t.power) (top : u.top ≡ K * t.top) (load : u.load ≡ K * t.load) (factor : u.factor ≡ t.factor) where
  formula_same : (p q b n : ℕ) → formula u p q b n ≡ formula t p q b n
  formula_same p q b n =
      rw (rise, power, top, load, factor)
      (leb_like 1 K _ _ _ _ (lit< tt) pos (out_top (b ^ t.rise) t.top K ((t.factor.num p q) ^ t.power)) (out_load t.load K ((t.factor.den p q) ^ t.power) (n ^ t.rise)))

  most_same : (p q : ℕ) → most u p q ≡ most t p q
  unfolding most
  most_same p q = λ i. bisect (λ b. leb b 2000000 && formula_same p q b 1000000 i) 21 0 2000001

  term_same : (q : ℕ) (c : Cut) (n m : ℕ) → 0 < m → term_bounds q (n * m) c u ≡ term_bounds q n c t
  term_same q c zero m some = rw (zero-mul m) (unloaded q c t u)
  term_same q c (suc n) m some =
      loaded q (suc n * m) c u (mul-pos (zero-lt-suc n) some) ∙ ap around (most_same (place c q) q) ∙ sym (loaded q (suc n) c t (zero-lt-suc n))

-- ---- a fraction in larger terms

abbrev larger : ℕ → Fraction → Fraction
larger m σ = (σ.num * m) // (σ.den * m)

module _ (m : ℕ) (pos : 0 < m) (q : ℕ) (c : Cut) (F : Factor) (fy : ℕ) (σ : Fraction) where
  -- the terms of axial and ring stress, and that of shear
  abbrev five : Fraction → Term
  five x = record { rise = 4; power = 5; top = (10000 * fy * x.den) ^ 5; load = (11 * x.num) ^ 5; factor = F }

  abbrev two : Fraction → Term
  two x = record { rise = 1; power = 2; top = (10000 * fy * x.den) ^ 2; load = 3 * (11 * x.num) ^ 2; factor = F }

  five_same : term_bounds q (σ.num * m) c (five (larger m σ)) ≡ term_bounds q σ.num c (five σ)
  five_same =
      term_same (five σ) (five (larger m σ)) (m ^ 5) (one-le-pow 5 m pos) refl refl (ring (fy ∷ σ.den ∷ m ∷ []) (search quoted depth 60 fits 100000) refl)
      (ring (σ.num ∷ m ∷ []) (search quoted depth 60 fits 100000) refl) refl q c σ.num m pos

  two_same : term_bounds q (σ.num * m) c (two (larger m σ)) ≡ term_bounds q σ.num c (two σ)
  two_same =
      term_same (two σ) (two (larger m σ)) (m ^ 2) (one-le-pow 2 m pos) refl refl (ring (fy ∷ σ.den ∷ m ∷ []) (search quoted depth 60 fits 100000) refl)
      (ring (σ.num ∷ m ∷ []) (search quoted depth 60 fits 100000) refl) refl q c σ.num m pos

abbrev added : ℕ → Pair → Pair → Pair → Pair
added more a r h = record { low = min 20000 ((a.low + r.low + h.low) / 100); high = min 20000 ((a.high + r.high + h.high + more + 99) / 100) }

module _ (s : Cylinder) (m : ℕ) (pos : 0 < m) where
  axial_same : (σ : Fraction) → axial_bounds s (larger m σ) ≡ axial_bounds s σ
  axial_same σ = five_same m pos (grid (axial_cut s)) (axial_cut s) (factor2 (axial_cut s) (excess s)) s.yield_stress σ

  ring_same : (σ : Fraction) → ring_bounds s (larger m σ) ≡ ring_bounds s σ
  ring_same σ = five_same m pos (grid (ring_cut s)) (ring_cut s) (factor1 (ring_cut s) (excess s)) s.yield_stress σ

  shear_same : (τ : Fraction) → shear_bounds s (larger m τ) ≡ shear_bounds s τ
  shear_same τ = two_same m pos (grid (shear_cut s)) (shear_cut s) (factor1 (shear_cut s) (excess s)) s.yield_stress τ

  -- L and U are the same
  sum_same : (more : ℕ) (σx σφ τ : Fraction) → sum_bounds more s (larger m σx) (larger m σφ) (larger m τ) ≡ sum_bounds more s σx σφ τ
  unfolding sum_bounds
  sum_same more σx σφ τ = λ i. added more (axial_same σx i) (ring_same σφ i) (shear_same τ i)

-- ---- plates

-- the judgement for whole stresses is the judge's, of a record without pressure
pub whole_judged : (c : Record) → pressure_of c.inner ≡ 0 → judgement_by (cylinder_of c.wall) (whole c.group.axial) (whole (ring_stress (cylinder_of c.wall) c.group.ring)) (whole c.group.shear) ≡ judgement_of_record PressureFirst c
unfolding judgement_by unpressed_bounds
whole_judged c none = sym (ap (λ (p : Pair). judgement_of p.low p.high) (plain_bounds PressureFirst c none))

-- and so a plate on which 100,000 f/t is a whole number for each force is judged as the line with these stresses
pub whole_plate : (s : Shell) (f : Forces) (t σx σφ τ : ℕ) → 0 < t → 100000 * f.axial ≡ σx * t → 100000 * f.ring ≡ σφ * t → 100000 * f.shear ≡ τ * t →
    plate_judgement s f t ≡ judgement_of_record PressureFirst (record_of s.radius t s.length s.modulus s.yield_stress s.edges s.imperfection σx (Stress σφ) τ 0)
unfolding judgement_by
whole_plate s f t σx σφ τ pos ex ey ez =
    ap (λ (p : Pair). judgement_of p.low p.high) (same ∙ sum_same C t pos 0 (whole σx) (whole σφ) (whole τ))
    ∙ whole_judged (record_of s.radius t s.length s.modulus s.yield_stress s.edges s.imperfection σx (Stress σφ) τ 0) refl
  where
    C : Cylinder
    C = cylinder_of (wall_of s t)

    same : sum_bounds 0 C (stress_of f.axial t) (stress_of f.ring t) (stress_of f.shear t) ≡ sum_bounds 0 C (larger t (whole σx)) (larger t (whole σφ)) (larger t (whole τ))
    same = λ i. sum_bounds 0 C (ex i // sym (one-mul t) i) (ey i // sym (one-mul t) i) (ez i // sym (one-mul t) i)

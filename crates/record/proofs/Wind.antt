-- SCOPE 22.6 to 22.8 and 22.10: the ring stress of wind passes check 6, a record with wind has the answers that it has with that stress as a plain one, and
-- one with a plain stress is never refused by 13. Assumes nothing.
use mathlib.Core.Path.{◌≡◌, refl, sym, ap, ◌∙◌, subst}
use mathlib.Core.Bool.{Bool, true, ◌&&◌}
use mathlib.Core.Logic.{◌↔◌, inl, inr}
use mathlib.Core.List.{List, [], ◌∷◌}
use Prim.Native.Nat.{ℕ, ◌≤◌}
use native.Mathlib.Omega.{arith}
use lib.Dec.{leb, lit≤}
use borrow.Author.Tests.{leb-true, le-leb}
use Rattle.pressure.specs.declared.Order.{Order}
use Rattle.algebra.proofs.Tests.{and_true, clash}
use Rattle.cylinder.specs.declared.Cylinder.{Cylinder}
use Rattle.wind.specs.Wind.{wind_stress, WindStress}
use Rattle.wind.proofs.Stress.{wind_most, wind_stress_lem, wind_found}
use Rattle.std.specs.Prelude.{None, Ok, Err}
use Rattle.answer.specs.declared.Refusal.{Refusal}
use Rattle.answer.specs.Answers.{Answer, refusal_number}
use Rattle.answer.specs.Checks.{Check, check, FirstBroken, AllPassed}
use Rattle.answer.specs.Right.{AsCase, RightBy, refused}
use Rattle.answer.specs.Answering.{first_or}
use Rattle.answer.proofs.Checks.{all_passed}
use Rattle.record.specs.declared.Ring.{Ring}
use Rattle.record.specs.declared.Ring.TheVariants.{Stress, Wind}
use Rattle.record.specs.declared.Record.{Record}
use Rattle.record.specs.Limits.{dimensions, material, ring_in_range, edges_known, shortfall_allowed, wall_ratio, length_ratio, tolerated, wind_allowed, pressure_allowed, checks, record_of, cylinder_of}
use Rattle.record.specs.Right.{ring_stress, as_stress, Bounds, Right}
use Rattle.record.specs.Answering.{bounds_of, judgement_of_record, record_answer, ring_stress_of}
use Rattle.record.proofs.Checks.{cylinder_within}

-- what check 13 lets through
pub wind_limits : (w v : ℕ) → wind_allowed (Wind w v) ≡ true → (w ≤ 10000) × (v ≤ 1)
wind_limits w v h = let (a, b) = and_true (leb w 10000) (leb v 1) h in (leb-true w 10000 a, leb-true v 1 b)

-- wind on any cylinder makes a ring stress in its range, so check 6 cannot be broken by it
pub wind_in_range : (s : Cylinder) (w v : ℕ) → ring_in_range (Stress (wind_stress s w v)) ≡ true
wind_in_range s w v = le-leb (wind_stress s w v) 700000 (omega (arith, wind_most s w v))

pub ring_most : (s : Cylinder) (ring : Ring) → ring_in_range ring ≡ true → ring_stress s ring ≤ 700000
ring_most s (Stress σφ) h = leb-true σφ 700000 h
ring_most s (Wind w v) h = omega (arith, wind_most s w v)

-- the stress of wind on a record that breaks no check is the smallest that is enough
pub wind_smallest : (c : Record) → AllPassed (checks c) → (w v : ℕ) → c.group.ring ≡ Wind w v → WindStress (cylinder_of c.wall) w v (ring_stress (cylinder_of c.wall) c.group.ring)
wind_smallest c all w v e =
    let (gust, vented) = wind_limits w v (ap wind_allowed (sym e) ∙ all.1.1.1.1.1.1.0) in
    rw e (wind_stress_lem (cylinder_of c.wall) (cylinder_within c all) w v gust vented)

-- and it is the stress that the record is judged with
pub judged_ring : (c : Record) → AllPassed (checks c) → ring_stress_of c ≡ ring_stress (cylinder_of c.wall) c.group.ring
unfolding ring_stress_of
judged_ring c all = all_passed (λ n. 0) _ (checks c) all

-- the effective wall counts: 4 mm with a shortfall of 0.5 mm, and without
abbrev pub thin : ℕ → Record
thin d = record_of 4000 400 8000 210000 240 12 1000 0 (Wind 1000 0) 0 d

pub thin_713 : ring_stress (cylinder_of (thin 50).wall) (Wind 1000 0) ≡ 713
thin_713 = wind_found (cylinder_of (thin 50).wall) (cylinder_within (thin 50) (refl, (refl, (refl, (refl, (refl, (refl, (refl, (refl, tt))))))))) 1000 0 712 (lit≤ tt) (lit≤ tt) refl refl

pub thin_665 : ring_stress (cylinder_of (thin 0).wall) (Wind 1000 0) ≡ 665
thin_665 = wind_found (cylinder_of (thin 0).wall) (cylinder_within (thin 0) (refl, (refl, (refl, (refl, (refl, (refl, (refl, (refl, tt))))))))) 1000 0 664 (lit≤ tt) (lit≤ tt) refl refl

-- SCOPE 22.10: a record with a plain stress and without pressure is refused by 6 to 11 only
plain_broken : (c : Record) (σφ : ℕ) (r : Refusal) → c.group.ring ≡ Stress σφ → c.inner ≡ None → FirstBroken (checks c) r → (6 ≤ refusal_number r) × (refusal_number r ≤ 11)
plain_broken c σφ r plain none (inl (f, is)) = rw (← is) (lit≤ tt, lit≤ tt)
plain_broken c σφ r plain none (inr (_, inl (f, is))) = rw (← is) (lit≤ tt, lit≤ tt)
plain_broken c σφ r plain none (inr (_, inr (_, inl (f, is)))) = rw (← is) (lit≤ tt, lit≤ tt)
plain_broken c σφ r plain none (inr (_, inr (_, inr (_, inl (f, is))))) = rw (← is) (lit≤ tt, lit≤ tt)
plain_broken c σφ r plain none (inr (_, inr (_, inr (_, inr (_, inl (f, is)))))) = rw (← is) (lit≤ tt, lit≤ tt)
plain_broken c σφ r plain none (inr (_, inr (_, inr (_, inr (_, inr (_, inl (f, is))))))) = rw (← is) (lit≤ tt, lit≤ tt)
plain_broken c σφ r plain none (inr (_, inr (_, inr (_, inr (_, inr (_, inr (_, inl (f, is)))))))) = absurd (clash (ap wind_allowed plain) f)
plain_broken c σφ r plain none (inr (_, inr (_, inr (_, inr (_, inr (_, inr (_, inr (_, inl (f, is))))))))) = absurd (clash (ap pressure_allowed none) f)
plain_broken c σφ r plain none (inr (_, inr (_, inr (_, inr (_, inr (_, inr (_, inr (_, inr (_, rest))))))))) = absurd rest

pub plain_refusal : (o : Order) (c : Record) (σφ : ℕ) (r : Refusal) → c.group.ring ≡ Stress σφ → c.inner ≡ None → Right o c (Err r) → (6 ≤ refusal_number r) × (refusal_number r ≤ 11)
plain_refusal o c σφ r plain none (refused _ f) = plain_broken c σφ r plain none f

-- the answers to a record that passes check 13 are those to the record with the plain stress
same_range : (s : Cylinder) (ring : Ring) → ring_in_range ring ≡ ring_in_range (Stress (ring_stress s ring))
same_range s (Stress σφ) = refl
same_range s (Wind w v) = sym (wind_in_range s w v)

module _ (o : Order) (c : Record) (allowed : wind_allowed c.group.ring ≡ true) where
  same_checks : checks c ≡ checks (as_stress c)
  same_checks = λ i. by (same_range (cylinder_of c.wall) c.group.ring i) (allowed i)
    where
      by : Bool → Bool → List Check
      by ring wind =
          check Refusal.Range (dimensions c.wall && (material c.wall && (leb c.group.axial 700000 && (ring && leb c.group.shear 700000))))
          ∷ check Refusal.Edges (edges_known c.wall)
          ∷ check Refusal.Shortfall (shortfall_allowed c.wall)
          ∷ check Refusal.WallRatio (wall_ratio c.wall)
          ∷ check Refusal.LengthRatio (length_ratio c.wall)
          ∷ check Refusal.Imperfection (tolerated c.wall)
          ∷ check Refusal.Wind wind
          ∷ check Refusal.Pressure (pressure_allowed c.inner)
          ∷ []

  pub wind_right : (a : Answer) → Right o c a ↔ Right o (as_stress c) a
  wind_right a = (λ r. subst (λ (l : List Check). RightBy l (AsCase 1 (Bounds o c)) a) same_checks r, λ r. subst (λ (l : List Check). RightBy l (AsCase 1 (Bounds o c)) a) (sym same_checks) r)

  pub wind_answer : record_answer o c ≡ record_answer o (as_stress c)
  unfolding record_answer bounds_of
  wind_answer = ap (first_or Err (Ok (judgement_of_record o c))) same_checks

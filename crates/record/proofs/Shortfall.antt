-- SCOPE 20.8: where the effective wall is the nominal one, a record has the answers that it would have without a shortfall. So it is with a d of 0,
-- and from t = 500 up with any d that passes check 11. Assumes nothing.
use mathlib.Core.Path.{◌≡◌, refl, sym, ap, ◌∙◌, subst}
use Prim.Native.Nat.{ℕ, ◌*◌, ◌≤◌}
use native.Mathlib.Omega.{arith}
use mathlib.Core.Bool.{Bool, true, false, ◌&&◌}
use mathlib.Core.Logic.{◌↔◌, inl, inr}
use mathlib.Core.List.{List, [], ◌∷◌}
use lib.Dec.{leb}
use borrow.Author.Tests.{le-leb, lt-leb, leb-true, leb-false, le-ltb}
use Rattle.pressure.specs.declared.Order.{Order}
use Rattle.algebra.proofs.Tests.{clash, pick_either}
use Rattle.cylinder.specs.declared.Cylinder.{Cylinder}
use Rattle.std.specs.Prelude.{Ok, Err}
use Rattle.answer.specs.declared.Refusal.{Refusal}
use Rattle.answer.specs.Answers.{Answer}
use Rattle.answer.specs.declared.Judgement.{Judgement}
use Rattle.answer.specs.Checks.{Check, check, FirstBroken}
use Rattle.answer.specs.Right.{AsCase, refused, judged}
use Rattle.answer.specs.Answering.{first_or, judgement_of}
use Rattle.record.specs.declared.Wall.{Wall}
use Rattle.record.specs.declared.Record.{Record}
use Rattle.record.specs.Limits.{in_range, edges_known, shortfall_counts, effective_wall, ratio_by, wall_ratio, length_ratio, tolerated, wind_allowed, pressure_of, pressure_allowed, checks, cylinder_by, cylinder_of, with_shortfall}
use Rattle.record.specs.Right.{GroupBounds, Right}
use Rattle.record.specs.Nominal.{nominal_ratio, nominal_checks, nominal_cylinder, NominalRight, nominal_bounds, nominal_answer}
use Rattle.record.specs.Answering.{group_bounds, bounds_of, record_answer}

-- both sides of an order doubled
doubled : (m n m' n' : ℕ) → m' ≡ 2 * m → n' ≡ 2 * n → leb m' n' ≡ leb m n
doubled m n m' n' p q = go (leb m n) refl
  where
    go : (b : Bool) → leb m n ≡ b → leb m' n' ≡ b
    go true e = le-leb m' n' (omega (arith, p, q, leb-true m n e))
    go false e = lt-leb m' n' (omega (arith, p, q, leb-false m n e))

ratio_nominal : (w : Wall) → ratio_by (2 * w.thickness) w ≡ nominal_ratio w
ratio_nominal w =
    λ i. doubled (20 * w.thickness) (100 * w.radius) (20 * (2 * w.thickness)) (200 * w.radius) (omega arith) (omega arith) i
    && doubled (100 * w.radius) (2500 * w.thickness) (200 * w.radius) (2500 * (2 * w.thickness)) (omega arith) (omega arith) i

module _ (o : Order) (c : Record) (small : c.wall.shortfall ≤ 50) (e : effective_wall c.wall ≡ 2 * c.wall.thickness) where
  passed : leb c.wall.shortfall 50 ≡ true
  passed = le-leb c.wall.shortfall 50 small

  same_ratio : wall_ratio c.wall ≡ nominal_ratio c.wall
  same_ratio = ap (λ (x : ℕ). ratio_by x c.wall) e ∙ ratio_nominal c.wall

  same_cylinder : cylinder_of c.wall ≡ nominal_cylinder c.wall
  same_cylinder = ap (λ (x : ℕ). cylinder_by x c.wall) e

  -- the checks behind 8
  abbrev behind : List Check
  behind = check Refusal.LengthRatio (length_ratio c.wall) ∷ check Refusal.Imperfection (tolerated c.wall) ∷ check Refusal.Wind (wind_allowed c.group.ring) ∷ check Refusal.Pressure (pressure_allowed c.inner) ∷ []

  abbrev From8 : Bool → Refusal → Type 0
  From8 b n = FirstBroken (check Refusal.WallRatio b ∷ behind) n

  abbrev Claim : Cylinder → Judgement → Type 0
  Claim s = AsCase 1 (GroupBounds o s (pressure_of c.inner) c.group)

  fewer : (n : Refusal) → FirstBroken (checks c) n → FirstBroken (nominal_checks c) n
  fewer n (inl x) = inl x
  fewer n (inr (p, inl x)) = inr (p, inl x)
  fewer n (inr (p, inr (q, inl (f, is)))) = absurd (clash passed f)
  fewer n (inr (p, inr (q, inr (d, more)))) = inr (p, inr (q, subst (λ (b : Bool). From8 b n) same_ratio more))

  further : (n : Refusal) → FirstBroken (nominal_checks c) n → FirstBroken (checks c) n
  further n (inl x) = inl x
  further n (inr (p, inl x)) = inr (p, inl x)
  further n (inr (p, inr (q, more))) = inr (p, inr (q, inr (passed, subst (λ (b : Bool). From8 b n) (sym same_ratio) more)))

  -- what is right is the same
  pub nominal_right : (a : Answer) → Right o c a ↔ NominalRight o c a
  nominal_right a = (λ r. to a r, λ r. back a r)
    where
      to : (a : Answer) → Right o c a → NominalRight o c a
      to _ (refused n f) = refused n (fewer n f)
      to _ (judged j (p, (q, (d, (w, more)))) b v) = judged j (p, (q, (sym same_ratio ∙ w, more))) (subst (λ (s : Cylinder). Claim s j) same_cylinder b) v

      back : (a : Answer) → NominalRight o c a → Right o c a
      back _ (refused n f) = refused n (further n f)
      back _ (judged j (p, (q, (w, more))) b v) =
          judged j (p, (q, (passed, (same_ratio ∙ w, more)))) (subst (λ (s : Cylinder). Claim s j) (sym same_cylinder) b) v

  -- and so is the program's answer
  pub nominal_answer_lem : record_answer o c ≡ nominal_answer o c
  unfolding record_answer bounds_of nominal_answer nominal_bounds
  nominal_answer_lem = λ i. by (same_cylinder i) (passed i) (same_ratio i)
    where
      by : Cylinder → Bool → Bool → Answer
      by s allowed ratio =
          let b = group_bounds o s (pressure_of c.inner) c.group in
          first_or Err (Ok (judgement_of b.low b.high))
          (check Refusal.Range (in_range c) ∷ check Refusal.Edges (edges_known c.wall) ∷ check Refusal.Shortfall allowed ∷ check Refusal.WallRatio ratio ∷ behind)

-- ---- a record with a d of 0

zero_nominal : (w : Wall) → w.shortfall ≡ 0 → effective_wall w ≡ 2 * w.thickness
zero_nominal w z = pick_either (λ (x : ℕ). x ≡ 2 * w.thickness) (shortfall_counts w) (omega (arith, z)) refl

module _ (o : Order) (c : Record) (z : c.wall.shortfall ≡ 0) where
  pub zero_right : (a : Answer) → Right o c a ↔ NominalRight o c a
  zero_right a = nominal_right o c (omega (arith, z)) (zero_nominal c.wall z) a

  pub zero_answer : record_answer o c ≡ nominal_answer o c
  zero_answer = nominal_answer_lem o c (omega (arith, z)) (zero_nominal c.wall z)

-- ---- from t = 500 up, with a d within its limit

counts_not : (w : Wall) → 500 ≤ w.thickness → shortfall_counts w ≡ false
counts_not w h = le-ltb w.thickness 500 h

thick_nominal : (w : Wall) → 500 ≤ w.thickness → effective_wall w ≡ 2 * w.thickness
thick_nominal w h = rw (counts_not w h) refl

module _ (o : Order) (c : Record) (thick : 500 ≤ c.wall.thickness) where
  pub thick_right : c.wall.shortfall ≤ 50 → (a : Answer) → Right o c a ↔ NominalRight o c a
  thick_right small a = nominal_right o c small (thick_nominal c.wall thick) a

  pub thick_answer : c.wall.shortfall ≤ 50 → record_answer o c ≡ nominal_answer o c
  thick_answer small = nominal_answer_lem o c small (thick_nominal c.wall thick)

-- two such records that differ in d alone: neither their right answers nor the program's differ
module _ (o : Order) (c : Record) (thick : 500 ≤ c.wall.thickness) (d d' : ℕ) (small : d ≤ 50) (small' : d' ≤ 50) where
  pub thick_same_right : (a : Answer) → Right o (with_shortfall d c) a → Right o (with_shortfall d' c) a
  thick_same_right a r = (thick_right o (with_shortfall d' c) thick small' a).1 ((thick_right o (with_shortfall d c) thick small a).0 r)

  pub thick_same_answer : record_answer o (with_shortfall d c) ≡ record_answer o (with_shortfall d' c)
  unfolding nominal_answer
  thick_same_answer = thick_answer o (with_shortfall d c) thick small ∙ sym (thick_answer o (with_shortfall d' c) thick small')

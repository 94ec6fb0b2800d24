-- Laws of shells and plates: the checks by the refusal of a record without any stress, and candidates. Assumes nothing.
use mathlib.Core.Path.{◌≡◌, refl, sym, ◌∙◌}
use mathlib.Core.Bool.{Bool, true, false, ◌&&◌}
use mathlib.Core.List.{List}
use Prim.Native.Nat.{ℕ, ◌*◌, ◌≤◌}
use native.Mathlib.Omega.{arith}
use lib.Dec.{leb, ltb, eqb}
use borrow.Author.Tests.{leb-true, leb-false, le-leb, lt-leb}
use Rattle.algebra.specs.Choice.{pick}
use Rattle.algebra.proofs.Tests.{and_true, both_true, pick_either}
use Rattle.cylinder.specs.InLimits.{InLimits}
use Rattle.std.specs.Prelude.{Result, Ok, Err, is_ok}
use Rattle.answer.specs.declared.Refusal.{Refusal}
use Rattle.answer.specs.Answers.{refusal_number}
use Rattle.answer.specs.Checks.{AllPassed}
use Rattle.answer.specs.Answering.{refusal_by}
use Rattle.answer.proofs.Checks.{refusal_none}
use Rattle.record.specs.Limits.{from_to, radius_in_range, thickness_in_range, length_in_range, material, in_range, edges_known, effective_wall, wall_ratio, length_ratio, tolerated, checks, cylinder_of}
use Rattle.record.proofs.Checks.{between, ranges, cylinder_within}
use Rattle.plates.specs.declared.Shell.{Shell}
use Rattle.plates.specs.declared.Forces.{Forces}
use Rattle.plates.specs.Plates.{wall_of, bare, list_allowed, shell_in_range, forces_up_to, forces_allowed, choice_checks, stresses_in_range, is_candidate}
use Rattle.plates.specs.Choosing.{unloaded, refusal_of, early, suited, fits}

-- without a shortfall the wall is the nominal one
pub wall_nominal : (s : Shell) (t : ℕ) → 2 * t ≡ effective_wall (wall_of s t)
wall_nominal s t = pick_either (λ x. 2 * t ≡ x) (ltb t 500) (omega arith) refl

-- ---- a radius in its range, with the thickness that suits it

inside : (low high x : ℕ) → low ≤ x → x ≤ high → from_to low high x ≡ true
inside low high x a b = both_true (leb low x) (leb x high) (le-leb low x a) (le-leb x high b)

module _ (r : ℕ) (ok : from_to 100 50000 r ≡ true) where
  suited_in_range : from_to 100 10000 (suited r) ≡ true
  suited_in_range = let b = between 100 50000 r ok in inside 100 10000 (suited r) (omega (arith, b.least)) (omega arith)

  suited_ratio : (wall : ℕ) → 2 * suited r ≡ wall → from_to (20 * wall) (2500 * wall) (200 * r) ≡ true
  suited_ratio wall e = let b = between 100 50000 r ok in inside (20 * wall) (2500 * wall) (200 * r) (omega (arith, e, b.least, b.most)) (omega (arith, e, b.least, b.most))

-- the range of a record without any stress, where that of its thickness is passed if that of its radius is
same_range : (r t l m : Bool) → (r ≡ true → t ≡ true) → ((r && (t && l)) && (m && true)) ≡ (r && (l && m))
same_range false t l m h = refl
same_range true t l m h = rw (h refl) (go l m)
  where
    go : (l m : Bool) → (l && (m && true)) ≡ (l && m)
    go false m = refl
    go true false = refl
    go true true = refl

-- how a shell is refused by the first of checks 6, 7, 9 and 10 that it breaks
abbrev pub shell_refusal : Shell → Result (Unit {0}) Refusal
shell_refusal s =
    pick (shell_in_range s) (pick (edges_known (bare s)) (pick (length_ratio (bare s)) (pick (tolerated (bare s)) (Ok tt) (Err Refusal.Imperfection)) (Err Refusal.LengthRatio)) (Err Refusal.Edges))
    (Err Refusal.Range)

module _ (s : Shell) where
  -- so is its record with the thickness that suits it
  pub suited_refusal : refusal_of s (suited s.radius) ≡ shell_refusal s
  unfolding refusal_of
  suited_refusal = go (shell_in_range s) refl
    where
      t : ℕ
      t = suited s.radius

      range : in_range (unloaded s t) ≡ shell_in_range s
      range = same_range (radius_in_range (bare s)) (thickness_in_range (wall_of s t)) (length_in_range (bare s)) (material (bare s)) (suited_in_range s.radius)

      go : (b : Bool) → shell_in_range s ≡ b → refusal_by (checks (unloaded s t)) ≡ shell_refusal s
      go false e = rw (range, e) refl
      go true e =
          let r = (and_true (radius_in_range (bare s)) (length_in_range (bare s) && material (bare s)) e).0 in
          rw (range, e, suited_ratio s.radius r (effective_wall (wall_of s t)) (wall_nominal s t)) refl

-- by the tests of checks 6, 7, 9 and 10
abbrev by_tests : Bool → Bool → Bool → Bool → Result (Unit {0}) Refusal
by_tests x e l t = pick x (pick e (pick l (pick t (Ok tt) (Err Refusal.Imperfection)) (Err Refusal.LengthRatio)) (Err Refusal.Edges)) (Err Refusal.Range)

-- with the forces asked after 7: the checks after 14
in_order : (s : Shell) (forces : Bool) →
    pick (shell_in_range s)
    (pick (edges_known (bare s)) (pick forces (pick (length_ratio (bare s)) (pick (tolerated (bare s)) (Ok tt) (Err Refusal.Imperfection)) (Err Refusal.LengthRatio)) (Err Refusal.Force)) (Err Refusal.Edges))
    (Err Refusal.Range)
    ≡ pick (early (shell_refusal s)) (shell_refusal s) (pick forces (shell_refusal s) (Err Refusal.Force))
in_order s forces = go (shell_in_range s) (edges_known (bare s)) (length_ratio (bare s)) (tolerated (bare s))
  where
    go : (x e l t : Bool) →
        pick x (pick e (pick forces (pick l (pick t (Ok tt) (Err Refusal.Imperfection)) (Err Refusal.LengthRatio)) (Err Refusal.Force)) (Err Refusal.Edges)) (Err Refusal.Range)
        ≡ pick (early (by_tests x e l t)) (by_tests x e l t) (pick forces (by_tests x e l t) (Err Refusal.Force))
    go false e l t = refl
    go true false l t = refl
    go true true false t = refl
    go true true true false = refl
    go true true true true = refl

-- what the code goes by: the checks of a choice, for a list that passes 14
pub by_shell : (s : Shell) (f : Forces) (ps : List ℕ) → list_allowed ps ≡ true → (r : Result (Unit {0}) Refusal) → r ≡ refusal_of s (suited s.radius) →
    refusal_by (choice_checks s f ps) ≡ pick (early r) r (pick (forces_allowed f) r (Err Refusal.Force))
by_shell s f ps list r is = rw (list, is ∙ suited_refusal s) (in_order s (forces_allowed f))

-- the number of the first check that is broken, 0 where none is
abbrev pub number_of : Result (Unit {0}) Refusal → ℕ
number_of (Ok u) = 0
number_of (Err r) = refusal_number r

-- the same by numbers: 15 comes behind 6 and 7 alone
pub by_number : (s : Shell) (f : Forces) (ps : List ℕ) → list_allowed ps ≡ true → (n : ℕ) → n ≡ number_of (refusal_of s (suited s.radius)) →
    number_of (refusal_by (choice_checks s f ps)) ≡ pick (eqb n 6) 6 (pick (eqb n 7) 7 (pick (forces_allowed f) n 15))
by_number s f ps list n is = rw (is, by_shell s f ps list (refusal_of s (suited s.radius)) refl) (go (refusal_of s (suited s.radius)) (forces_allowed f))
  where
    forced : (r : Result (Unit {0}) Refusal) (b : Bool) → number_of (pick b r (Err Refusal.Force)) ≡ pick b (number_of r) 15
    forced r true = refl
    forced r false = refl

    go : (r : Result (Unit {0}) Refusal) (b : Bool) → let n : ℕ = number_of r in number_of (pick (early r) r (pick b r (Err Refusal.Force))) ≡ pick (eqb n 6) 6 (pick (eqb n 7) 7 (pick b n 15))
    go (Ok tt) b = forced (Ok tt) b
    go (Err Refusal.Range) b = refl
    go (Err Refusal.Edges) b = refl
    go (Err r) b = forced (Err r) b

-- ---- a plate by its record without any stress

pub ok_unit : (r : Result (Unit {0}) Refusal) → is_ok r ≡ true → Ok tt ≡ r
ok_unit (Ok x) e = refl
ok_unit (Err r) e = cc

module _ (s : Shell) (t : ℕ) (unbroken : is_ok (refusal_of s t) ≡ true) where
  all_passed : AllPassed (checks (unloaded s t))
  unfolding refusal_of
  all_passed = refusal_none (checks (unloaded s t)) (ok_unit _ unbroken)

  pub unbroken_within : InLimits (cylinder_of (wall_of s t))
  unbroken_within = cylinder_within (unloaded s t) all_passed

  pub unbroken_thickness : t ≤ 10000
  unbroken_thickness = (ranges (unloaded s t) all_passed.0).thickness.most

module _ (s : Shell) (f : Forces) (t : ℕ) (fit : fits s f t ≡ true) where
  unbroken : is_ok (refusal_of s t) ≡ true
  unbroken = (and_true (is_ok (refusal_of s t)) (forces_up_to (7 * t) f) fit).0

  pub fits_passed : AllPassed (checks (unloaded s t))
  fits_passed = all_passed s t unbroken

  pub fits_within : InLimits (cylinder_of (wall_of s t))
  fits_within = unbroken_within s t unbroken

  pub fits_thickness : t ≤ 10000
  fits_thickness = unbroken_thickness s t unbroken

  -- so that the stress of a force is a small fraction
  pub fits_forces : (f.axial ≤ 70000) × (f.ring ≤ 70000) × (f.shear ≤ 70000)
  fits_forces =
      let (x, yz) = and_true (leb f.axial (7 * t)) (leb f.ring (7 * t) && leb f.shear (7 * t)) (and_true (is_ok (refusal_of s t)) (forces_up_to (7 * t) f) fit).1 in
      let (y, z) = and_true (leb f.ring (7 * t)) (leb f.shear (7 * t)) yz in (
        omega (arith, fits_thickness, leb-true f.axial (7 * t) x),
        omega (arith, fits_thickness, leb-true f.ring (7 * t) y),
        omega (arith, fits_thickness, leb-true f.shear (7 * t) z),
      )

-- ---- where the checks of a shell are passed, a plate fits if it is a candidate

stress_most : (f t : ℕ) → leb f (7 * t) ≡ leb (100000 * f * 1) (700000 * t)
stress_most f t = go (leb f (7 * t)) refl
  where
    go : (b : Bool) → leb f (7 * t) ≡ b → b ≡ leb (100000 * f * 1) (700000 * t)
    go true e = sym (le-leb (100000 * f * 1) (700000 * t) (omega (arith, leb-true f (7 * t) e)))
    go false e = sym (lt-leb (100000 * f * 1) (700000 * t) (omega (arith, leb-false f (7 * t) e)))

stresses_most : (f : Forces) (t : ℕ) → forces_up_to (7 * t) f ≡ stresses_in_range f t
stresses_most f t = λ i. stress_most f.axial t i && (stress_most f.ring t i && stress_most f.shear t i)

module _ (s : Shell) (range : shell_in_range s ≡ true) (edges : edges_known (bare s) ≡ true) (long : length_ratio (bare s) ≡ true) (sound : tolerated (bare s) ≡ true) where
  pub fits_candidate : (f : Forces) (t : ℕ) → fits s f t ≡ is_candidate s f t
  unfolding refusal_of
  fits_candidate f t = go (thickness_in_range (wall_of s t)) refl (wall_ratio (wall_of s t)) refl
    where
      passed : (radius_in_range (bare s) ≡ true) × (length_in_range (bare s) ≡ true) × (material (bare s) ≡ true)
      passed =
          let (r, lm) = and_true (radius_in_range (bare s)) (length_in_range (bare s) && material (bare s)) range in
          let (l, m) = and_true (length_in_range (bare s)) (material (bare s)) lm in
          (r, l, m)

      go : (b : Bool) → thickness_in_range (wall_of s t) ≡ b → (c : Bool) → wall_ratio (wall_of s t) ≡ c → fits s f t ≡ is_candidate s f t
      go false e c d = rw (passed.0, e) refl
      go true e false d = rw (passed.0, passed.1, passed.2, edges, e, d) refl
      go true e true d = rw (passed.0, passed.1, passed.2, edges, long, sound, e, d, stresses_most f t) refl

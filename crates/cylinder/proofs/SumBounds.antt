-- The bounds that `sum_bounds` gives are right, over the definitions of Ideal, Resistance and Sum.
use mathlib.Core.Path.{◌≡◌, refl, sym, ap, ◌∙◌}
use mathlib.Core.Bool.{Bool, false, ◌&&◌}
use mathlib.Core.Logic.{◌≢◌}
use Prim.Native.Nat.{ℕ, zero, suc, ◌+◌, ◌*◌, ◌/◌, ◌^◌, ◌≤◌, ◌<◌, min}
use native.Mathlib.Nat.{mul-pos, mul-le-mul_right, one-le-pow}
use native.Mathlib.Omega.{arith}
use lib.Dec.{leb, lit≤, lit<}
use borrow.Author.Tests.{le-leb}
use Rattle.algebra.specs.Bisection.{Edge}
use Rattle.cylinder.specs.declared.Cylinder.{Cylinder}
use Rattle.cylinder.specs.Fraction.{Fraction, ◌//◌}
use Rattle.cylinder.specs.Number.{Number, exactly}
use Rattle.cylinder.specs.Resistance.{Branch1, Branch2, branch1, branch2, axial_s, ring_s, shear_s}
use Rattle.cylinder.specs.Sum.{Reaches, unloaded, loaded, axial_test, ring_test, shear_test, AxialReaches, RingReaches, ShearReaches, Over}
use Rattle.cylinder.specs.Exact.{Encloses, Close, SumOver}
use Rattle.cylinder.specs.InLimits.{InLimits}
use Rattle.cylinder.specs.Cut.{Cut, as_number}
use Rattle.cylinder.specs.WholeIdeal
use Rattle.cylinder.specs.WholeTerm.{Term, formula}
use Rattle.cylinder.specs.WholeStress.{excess, axial_term, ring_term, shear_term}
use Rattle.cylinder.specs.Search.{Pair, grid, place, most, around, term_bounds, axial_bounds, ring_bounds, shear_bounds, sum_bounds}
use Rattle.algebra.proofs.Tests.{and_true, and_rest}
use Rattle.cylinder.proofs.Bounds.{Attains, Fit, fit_lower, fit_upper, fit_next}
use Rattle.cylinder.proofs.Branches.{same1, same2}
use Rattle.cylinder.proofs.Curve1.{fit1}
use Rattle.cylinder.proofs.Curve2.{fit2}
use Rattle.cylinder.proofs.Limits.{Sound, sound, axial_lawful, ring_lawful, shear_lawful}
use Rattle.cylinder.proofs.Far.{axial_far, ring_far, shear_far}
use Rattle.cylinder.proofs.Agree.{Agree, axial_agree, ring_agree, shear_agree}
use Rattle.cylinder.proofs.Curves.{axial_test_lem, ring_test_lem, shear_test_lem}
use Rattle.cylinder.proofs.Search.{placed, most_edge}

-- a term, known by what it reaches, between two numbers of millionths; the upper one counts below 2
pub record Bracket (R : ℕ → ℕ → Type 0) (low high : ℕ) : Type 0 where
  pub reached : R low 1000000
  pub below : high < 2000000 → (b n : ℕ) → 0 < n → R b n → b * 1000000 ≤ high * n
  pub close : high ≤ low + 2

-- s misses the next point of the grid
pub fit_bracket : (s : Cut) (same : ℕ → ℕ → Type 0) (t : Term) (k q : ℕ) → Fit s same t k q → s.reaches (k + 1) q ≡ false → t.rise ≢ 0 →
    Bracket (Attains s same t) (around (most t k q)).low (around (most t k q)).high
fit_bracket s same t k q f out nz =
    record {
      reached = fit_lower s same t k q f l 1000000 (and_true (leb l 2000000) (formula t k q l 1000000) edge.passes).1;
      below = λ small b n npos r.
          let under : l < 2000000 = omega arith in
          let lt : b * 1000000 < (l + 2) * n = fit_upper s same t k q f (l + 2) 1000000 out (fit_next s same t k q f l under (missed under)) b n npos r in
          omega arith;
      close = omega arith;
    }
  where
    l : ℕ
    l = most t k q

    edge : Edge (λ b. leb b 2000000 && formula t k q b 1000000) l
    edge = most_edge t k q nz

    missed : l < 2000000 → formula t k q (l + 1) 1000000 ≡ false
    missed small = and_rest (leb (l + 1) 2000000) (formula t k q (l + 1) 1000000) edge.fails (le-leb (l + 1) 2000000 (omega arith))

-- ---- from the whole-number forms to the definitions

branch1_agree : (S : Number) (c : Cut) → Agree S c → branch1 S ≡ branch1 (as_number c)
branch1_agree S c same = same1 (branch1 S) (branch1 (as_number c)) (same.within 4 10) (same.reaches 12 10) (same.reaches 15 10)

branch2_agree : (S : Number) (c : Cut) → Agree S c → branch2 S ≡ branch2 (as_number c)
branch2_agree S c same =
    same2 (branch2 S) (branch2 (as_number c)) (same.within 25 100) (same.within 1 1) (same.within 15 10) (same.reaches 15 10) (same.reaches 2 1)

-- for either kind of branches
module _ (Branch : Type 0) (branch : Number → Branch) (S : Number) (c : Cut) (same : Agree S c) (branches : branch S ≡ branch (as_number c)) (σ : Fraction) (t : Term)
    (test : ℕ → ℕ → Branch → Fraction → Bool)
    (worked : (p q b n : ℕ) → branch (exactly (p // q)) ≡ branch (as_number c) → test b n (branch (as_number c)) (p // q) ≡ formula t p q b n) where
  abbrev In : ℕ → ℕ → Type 0
  In p q = branch (exactly (p // q)) ≡ branch (as_number c)

  abbrev R : ℕ → ℕ → Type 0
  R = Reaches Branch branch S σ test

  worked_in : (p q b n : ℕ) → In p q → test b n (branch S) (p // q) ≡ formula t p q b n
  worked_in p q b n inside = ap (λ (x : Branch). test b n x (p // q)) branches ∙ worked p q b n inside

  give : (b n : ℕ) → 0 < σ.num → Attains c In t b n → R b n
  give b n pos r =
      loaded pos (r.p // r.q) r.positive (same.reaches r.p r.q ∙ r.reached) (r.inside ∙ sym branches)
      (worked_in r.p r.q b n r.inside ∙ r.holds)

  take : (b n : ℕ) → 0 < σ.num → R b n → Attains c In t b n
  take b n pos (unloaded z e) = absurd (let no : 0 < 0 = rw z at pos in omega arith)
  take b n pos (loaded _ g den reached inside holds) =
      record {
        p = g.num;
        q = g.den;
        positive = den;
        reached = sym (same.reaches g.num g.den) ∙ reached;
        inside = inside ∙ branches;
        holds = sym (worked_in g.num g.den b n (inside ∙ branches)) ∙ holds;
      }

  -- a stress of 0, and another
  nothing : σ.num ≡ 0 → Bracket R 0 0
  nothing z = record { reached = unloaded z refl; below = λ small b n pos r. none b n r; close = lit≤ tt }
    where
      none : (b n : ℕ) → R b n → b * 1000000 ≤ 0 * n
      none b n (unloaded _ e) = omega arith
      none b n (loaded pos g den reached inside holds) = absurd (let no : 0 < 0 = rw z at pos in omega arith)

  something : (l h : ℕ) → 0 < σ.num → Bracket (Attains c In t) l h → Bracket R l h
  something l h pos w =
      record {
        reached = give l 1000000 pos w.reached;
        below = λ small b n npos r. w.below small b n npos (take b n pos r);
        close = w.close;
      }

  bracket : (q : ℕ) → c.reaches (place c q + 1) q ≡ false → t.rise ≢ 0 → (0 < σ.num → Fit c In t (place c q) q) →
      Bracket R (term_bounds q σ.num c t).low (term_bounds q σ.num c t).high
  unfolding term_bounds
  bracket q out nz fit = go σ.num refl
    where
      go : (x : ℕ) → σ.num ≡ x → Bracket R (term_bounds q x c t).low (term_bounds q x c t).high
      go zero e = nothing e
      go (suc x) e = let pos : 0 < σ.num = omega arith in something _ _ pos (fit_bracket c In t (place c q) q (fit pos) out nz)

-- each stress by itself: one lemma for two of them names all in which they differ, and takes as many lines as it saves
pub axial_bracket : (s : Cylinder) → Sound s → (σ : Fraction) →
    Bracket (AxialReaches s σ) (axial_bounds s σ).low (axial_bounds s σ).high
axial_bracket s ok σ =
    let c : Cut = WholeIdeal.axial_cut s in
    let at = placed c (axial_lawful s ok) (axial_far s ok) in
    bracket Branch2 branch2 (axial_s s) c (axial_agree s ok) (branch2_agree (axial_s s) c (axial_agree s ok)) σ (axial_term s σ) (axial_test s σ)
    (λ p q b n same. axial_test_lem s ok.imperfect c p q σ b n same) (grid c) at.missed (omega arith)
    (λ pos.
    fit2 c (axial_lawful s ok) (place c (grid c)) (grid c) _ at (excess s) 4 5 ((10000 * s.yield_stress * σ.den) ^ 5) ((11 * σ.num) ^ 5) (omega arith)
    (one-le-pow 5 (11 * σ.num) (omega arith)) (lit≤ tt))

pub ring_bracket : (s : Cylinder) → Sound s → (σ : Fraction) →
    Bracket (RingReaches s σ) (ring_bounds s σ).low (ring_bounds s σ).high
ring_bracket s ok σ =
    let c : Cut = WholeIdeal.ring_cut s in
    let at = placed c (ring_lawful s ok) (ring_far s ok) in
    bracket Branch1 branch1 (ring_s s) c (ring_agree s ok) (branch1_agree (ring_s s) c (ring_agree s ok)) σ (ring_term s σ) (ring_test s σ)
    (λ p q b n same. ring_test_lem s ok.imperfect c p q σ b n) (grid c) at.missed (omega arith)
    (λ pos.
    fit1 c (ring_lawful s ok) (place c (grid c)) (grid c) _ at (excess s) 4 5 ((10000 * s.yield_stress * σ.den) ^ 5) ((11 * σ.num) ^ 5) (omega arith)
    (one-le-pow 5 (11 * σ.num) (omega arith)) (lit≤ tt))

pub shear_bracket : (s : Cylinder) → Sound s → (τ : Fraction) →
    Bracket (ShearReaches s τ) (shear_bounds s τ).low (shear_bounds s τ).high
shear_bracket s ok τ =
    let c : Cut = WholeIdeal.shear_cut s in
    let at = placed c (shear_lawful s ok) (shear_far s ok) in
    bracket Branch1 branch1 (shear_s s) c (shear_agree s ok) (branch1_agree (shear_s s) c (shear_agree s ok)) τ (shear_term s τ) (shear_test s τ)
    (λ p q b n same. shear_test_lem s ok.imperfect c p q τ b n) (grid c) at.missed (omega arith)
    (λ pos.
    fit1 c (shear_lawful s ok) (place c (grid c)) (grid c) _ at (excess s) 1 2 ((10000 * s.yield_stress * τ.den) ^ 2) (3 * (11 * τ.num) ^ 2) (omega arith)
    (mul-pos {m = 3} (lit< tt) (one-le-pow 2 (11 * τ.num) (omega arith))) (lit≤ tt))

-- ---- the sum

-- three brackets make the sum's, with room for some millionths more
module _ {X Y Z : ℕ → ℕ → Type 0} {a a' r r' h h' : ℕ} (A : Bracket X a a') (R : Bracket Y r r') (H : Bracket Z h h') (more : ℕ) where
  abbrev low : ℕ
  low = min 20000 ((a + r + h) / 100)

  abbrev high : ℕ
  high = min 20000 ((a' + r' + h' + more + 99) / 100)

  enclosed : Encloses (SumOver X Y Z) low high
  enclosed =
      record {
        at_least = λ u v lt.
            record {
              b = a;
              c = r;
              d = h;
              N = 1000000;
              positive = lit< tt;
              first = A.reached;
              second = R.reached;
              third = H.reached;
              over = over u v low (omega arith) lt;
            };
        at_most_lem = λ small o.
            under high o.b o.c o.d o.N (omega arith) (A.below (omega arith) o.b o.N o.positive o.first)
            (R.below (omega arith) o.c o.N o.positive o.second) (H.below (omega arith) o.d o.N o.positive o.third) o.over;
        L-most = omega arith;
        U-most = omega arith;
      }
    where
      over : (u v l : ℕ) → l * 100 ≤ a + r + h → u * 10000 < l * v → u * 1000000 < (a + r + h) * v
      over u v l le lt = omega (arith, mul-le-mul_right v le)

      under : (u b c d n : ℕ) → a' + r' + h' ≤ u * 100 → b * 1000000 ≤ a' * n → c * 1000000 ≤ r' * n → d * 1000000 ≤ h' * n → u * n < (b + c + d) * 10000 → ⊥
      under u b c d n le p q t lt = omega (arith, mul-le-mul_right n le)

  pub sum_enclosed : more ≤ 95 → Encloses (SumOver X Y Z) low high × Close low high
  sum_enclosed few = (enclosed, near few A.close R.close H.close)
    where
      near : more ≤ 95 → a' ≤ a + 2 → r' ≤ r + 2 → h' ≤ h + 2 → Close low high
      near few p q t = omega arith

-- a pair encloses a sum, and is close
abbrev pub Tight : (ℕ → ℕ → Type 0) → Pair → Type 0
Tight Sum p = Encloses Sum p.low p.high × Close p.low p.high

-- the theorem: for every sound shell, and so for every shell within the limits, and all stresses
pub sum_bounds_lem : (more : ℕ) → more ≤ 95 → (s : Cylinder) → Sound s → (σx σφ τ : Fraction) → Tight (Over s σx σφ τ) (sum_bounds more s σx σφ τ)
unfolding sum_bounds
sum_bounds_lem more few s ok σx σφ τ = sum_enclosed (axial_bracket s ok σx) (ring_bracket s ok σφ) (shear_bracket s ok τ) more few

pub sum_bounds_within : (more : ℕ) → more ≤ 95 → (s : Cylinder) → InLimits s → (σx σφ τ : Fraction) → Tight (Over s σx σφ τ) (sum_bounds more s σx σφ τ)
sum_bounds_within more few s w σx σφ τ = sum_bounds_lem more few s (sound s w) σx σφ τ

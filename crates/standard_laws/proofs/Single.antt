-- SCOPE 5.2, the checks of each stress alone: where the sum of three stresses is at most x/y, so is that of
-- each alone; and where it is at most 1, so is the ratio of each stress to its resistance.
use mathlib.Core.Path.{◌≡◌, refl}
use mathlib.Core.Bool.{Bool, true}
use Prim.Native.Nat.{ℕ, zero, suc, ◌*◌, ◌^◌, ◌≤◌, ◌<◌}
use native.Mathlib.Nat.{mul-le-mul_left, pow-suc}
use native.Mathlib.Omega.{arith}
use lib.Dec.{lit<}
use borrow.Author.Tests.{le-leb}
use Rattle.cylinder.specs.declared.Cylinder.{Cylinder}
use Rattle.cylinder.specs.Fraction.{Fraction, whole, ◌//◌, ◌⊗◌, ◌⊘◌, ◌↑◌, ◌at_most◌}
use Rattle.cylinder.specs.Number.{Number, exactly, power_1·25}
use Rattle.cylinder.specs.Exact.{AtMost, SumOver}
use Rattle.cylinder.specs.Sum.{axial_test, ring_test, shear_test, Reaches, unloaded, loaded, AxialReaches, RingReaches, ShearReaches, Over}
use Rattle.cylinder.specs.Resistance.{Branch1, Branch2, branch1, branch2, axial_s, ring_s, shear_s, axial_r, ring_r, shear_r_square}
use Rattle.cylinder.proofs.Limits.{Sound}
use Rattle.cylinder.proofs.SumBounds.{axial_bracket, ring_bracket, shear_bracket}

-- ---- every term reaches 0, and that of a stress of 0 nothing else

module _ (Branch : Type 0) (branch : Number → Branch) (S : Number) where
  nothing : (σ : Fraction) (test : ℕ → ℕ → Branch → Fraction → Bool) (b N M : ℕ) → ((br : Branch) (g : Fraction) → test 0 M br g ≡ true) →
      Reaches Branch branch S σ test b N → Reaches Branch branch S σ test 0 M
  nothing σ test b N M easy (unloaded z e) = unloaded z refl
  nothing σ test b N M easy (loaded pos g den reached inside holds) = loaded pos g den reached inside (easy (branch S) g)

  none : (test : ℕ → ℕ → Branch → Fraction → Bool) (b N : ℕ) → Reaches Branch branch S (whole 0) test b N → b ≡ 0
  none test b N (unloaded z e) = e
  none test b N (loaded pos g den reached inside holds) = absurd (omega arith)

no_power : (N : ℕ) (u : Fraction) → (power_1·25 u).reaches (0 // N) ≡ true
no_power N u = le-leb (0 ^ 4 * (u ↑ 5).den) ((u ↑ 5).num * N ^ 4) (omega arith)

no_square : (N : ℕ) (u : Fraction) → (0 // N at_most u) ≡ true
no_square N u = le-leb (0 * u.den) (u.num * N) (omega arith)

module _ (s : Cylinder) (ok : Sound s) where
  pub axial_0 : (σ : Fraction) (N : ℕ) → AxialReaches s σ 0 N
  axial_0 σ N =
      nothing Branch2 branch2 (axial_s s) σ (axial_test s σ) _ 1000000 N (λ br g. no_power N (σ ⊘ (whole 1000 ⊗ axial_r s br g)))
      (axial_bracket s ok σ).reached

  pub ring_0 : (σ : Fraction) (N : ℕ) → RingReaches s σ 0 N
  ring_0 σ N =
      nothing Branch1 branch1 (ring_s s) σ (ring_test s σ) _ 1000000 N (λ br g. no_power N (σ ⊘ (whole 1000 ⊗ ring_r s br g)))
      (ring_bracket s ok σ).reached

  pub shear_0 : (τ : Fraction) (N : ℕ) → ShearReaches s τ 0 N
  shear_0 τ N =
      nothing Branch1 branch1 (shear_s s) τ (shear_test s τ) _ 1000000 N
      (λ br g. no_square N (τ ↑ 2 ⊘ (whole 1000 ↑ 2 ⊗ shear_r_square s br g))) (shear_bracket s ok τ).reached

-- ---- the sum of three terms is at most x/y, and so is each

module _ {X Y Z : ℕ → ℕ → Type 0} (x y : ℕ) (h : AtMost (SumOver X Y Z) x y) (X-0 : (N : ℕ) → X 0 N) (Y-0 : (N : ℕ) → Y 0 N) (Z-0 : (N : ℕ) → Z 0 N) (b N : ℕ)
    (pos : 0 < N) where
  first_below : X b N → b * y ≤ x * N
  first_below r =
      let no : ¬ (x * N < b * y) =
      λ lt. h (record { b = b; c = 0; d = 0; N = N; positive = pos; first = r; second = Y-0 N; third = Z-0 N; over = omega arith }) in
      omega arith

  second_below : Y b N → b * y ≤ x * N
  second_below r =
      let no : ¬ (x * N < b * y) =
      λ lt. h (record { b = 0; c = b; d = 0; N = N; positive = pos; first = X-0 N; second = r; third = Z-0 N; over = omega arith }) in
      omega arith

  third_below : Z b N → b * y ≤ x * N
  third_below r =
      let no : ¬ (x * N < b * y) =
      λ lt. h (record { b = 0; c = 0; d = b; N = N; positive = pos; first = X-0 N; second = Y-0 N; third = r; over = omega arith }) in
      omega arith

module _ (s : Cylinder) (ok : Sound s) (σx σφ τ : Fraction) (x y : ℕ) (h : AtMost (Over s σx σφ τ) x y) where
  axial_below : (b N : ℕ) → 0 < N → AxialReaches s σx b N → b * y ≤ x * N
  axial_below = first_below x y h (axial_0 s ok σx) (ring_0 s ok σφ) (shear_0 s ok τ)

  ring_below : (b N : ℕ) → 0 < N → RingReaches s σφ b N → b * y ≤ x * N
  ring_below = second_below x y h (axial_0 s ok σx) (ring_0 s ok σφ) (shear_0 s ok τ)

  shear_below : (b N : ℕ) → 0 < N → ShearReaches s τ b N → b * y ≤ x * N
  shear_below = third_below x y h (axial_0 s ok σx) (ring_0 s ok σφ) (shear_0 s ok τ)

  pub axial_alone : AtMost (Over s σx (whole 0) (whole 0)) x y
  axial_alone o =
      omega (
        arith,
        axial_below o.b o.N o.positive o.first,
        rw (none Branch1 branch1 (ring_s s) _ o.c o.N o.second, none Branch1 branch1 (shear_s s) _ o.d o.N o.third) at o.over,
      )

  pub ring_alone : AtMost (Over s (whole 0) σφ (whole 0)) x y
  ring_alone o =
      omega (
        arith,
        ring_below o.c o.N o.positive o.second,
        rw (none Branch2 branch2 (axial_s s) _ o.b o.N o.first, none Branch1 branch1 (shear_s s) _ o.d o.N o.third) at o.over,
      )

  pub shear_alone : AtMost (Over s (whole 0) (whole 0) τ) x y
  shear_alone o =
      omega (
        arith,
        shear_below o.d o.N o.positive o.third,
        rw (none Branch2 branch2 (axial_s s) _ o.b o.N o.first, none Branch1 branch1 (ring_s s) _ o.c o.N o.second) at o.over,
      )

-- ---- the ratios themselves

powers : (n d : ℕ) → d ≤ n → n ^ 4 * d ^ 5 ≤ n ^ 5 * d ^ 4
powers n d le = rw (pow-suc n 4, pow-suc d 4) (omega (arith, mul-le-mul_left (n ^ 4 * d ^ 4) le))

-- n/d is at most 1 if its power is not over 1
fifth_most : (n d : ℕ) → ((b N : ℕ) → 0 < N → b ^ 4 * d ^ 5 ≤ n ^ 5 * N ^ 4 → b * 1 ≤ 1 * N) → n ≤ d
fifth_most n zero h = absurd (let two : 2 * 1 ≤ 1 * 1 = h 2 1 (lit< tt) (omega arith) in omega arith)
fifth_most n (suc d) h = let no : ¬ (suc d < n) = λ lt. over (omega arith) lt in omega arith
  where
    over : suc d ≤ n → suc d < n → ⊥
    over le lt = omega (arith, h n (suc d) (omega arith) (powers n (suc d) le))

first_most : (n d : ℕ) → ((b N : ℕ) → 0 < N → b * d ≤ n * N → b * 1 ≤ 1 * N) → n ≤ d
first_most n zero h = absurd (let two : 2 * 1 ≤ 1 * 1 = h 2 1 (lit< tt) (omega arith) in omega arith)
first_most n (suc d) h = omega (arith, h n (suc d) (omega arith) (omega arith))

-- a number that is known at the fractions g is at most 1
abbrev pub AtMostOne : (Branch : Type 0) → (Number → Branch) → Number → (Branch → Fraction → Fraction) → Type 0
AtMostOne Branch branch S f = (g : Fraction) → 0 < g.den → S.reaches g ≡ true → branch (exactly g) ≡ branch S → (f (branch S) g at_most whole 1) ≡ true

module _ (Branch : Type 0) (branch : Number → Branch) (S : Number) (σ : Fraction) (power : Fraction → Number) (ratio : Branch → Fraction → Fraction)
    (unloaded-ratio : σ.num ≡ 0 → (br : Branch) (g : Fraction) → (ratio br g at_most whole 1) ≡ true)
    (most-one : (u : Fraction) → ((b N : ℕ) → 0 < N → (power u).reaches (b // N) ≡ true → b * 1 ≤ 1 * N) → (u at_most whole 1) ≡ true) where
  kept : ((b N : ℕ) → 0 < N → Reaches Branch branch S σ (λ b N br g. (power (ratio br g)).reaches (b // N)) b N → b * 1 ≤ 1 * N) → AtMostOne Branch branch S ratio
  kept below g den reached inside = go σ.num refl
    where
      go : (x : ℕ) → σ.num ≡ x → (ratio (branch S) g at_most whole 1) ≡ true
      go zero e = unloaded-ratio e (branch S) g
      go (suc x) e = most-one (ratio (branch S) g) (λ b N pos r. below b N pos (loaded (omega arith) g den reached inside r))

power_one : (u : Fraction) → ((b N : ℕ) → 0 < N → (power_1·25 u).reaches (b // N) ≡ true → b * 1 ≤ 1 * N) → (u at_most whole 1) ≡ true
power_one u h = le-leb (u.num * 1) (1 * u.den) (omega (arith, fifth_most u.num u.den (λ b N pos le. h b N pos (le-leb _ _ le))))

exactly_one : (u : Fraction) → ((b N : ℕ) → 0 < N → (exactly u).reaches (b // N) ≡ true → b * 1 ≤ 1 * N) → (u at_most whole 1) ≡ true
exactly_one u h = le-leb (u.num * 1) (1 * u.den) (omega (arith, first_most u.num u.den (λ b N pos le. h b N pos (le-leb _ _ le))))

no_ratio : (σ f : Fraction) → σ.num ≡ 0 → (σ ⊘ f at_most whole 1) ≡ true
no_ratio σ f e = le-leb (σ.num * f.den * 1) (1 * (σ.den * f.num)) (rw e (omega arith))

module _ (s : Cylinder) (ok : Sound s) (σx σφ τ : Fraction) (h : AtMost (Over s σx σφ τ) 1 1) where
  pub axial_ratio : AtMostOne Branch2 branch2 (axial_s s) (λ br g. σx ⊘ (whole 1000 ⊗ axial_r s br g))
  axial_ratio =
      kept Branch2 branch2 (axial_s s) σx power_1·25 (λ br g. σx ⊘ (whole 1000 ⊗ axial_r s br g)) (λ e br g. no_ratio σx (whole 1000 ⊗ axial_r s br g) e) power_one
      (axial_below s ok σx σφ τ 1 1 h)

  pub ring_ratio : AtMostOne Branch1 branch1 (ring_s s) (λ br g. σφ ⊘ (whole 1000 ⊗ ring_r s br g))
  ring_ratio =
      kept Branch1 branch1 (ring_s s) σφ power_1·25 (λ br g. σφ ⊘ (whole 1000 ⊗ ring_r s br g)) (λ e br g. no_ratio σφ (whole 1000 ⊗ ring_r s br g) e) power_one
      (ring_below s ok σx σφ τ 1 1 h)

  -- its square, as the resistance is known by its square
  pub shear_ratio : AtMostOne Branch1 branch1 (shear_s s) (λ br g. τ ↑ 2 ⊘ (whole 1000 ↑ 2 ⊗ shear_r_square s br g))
  shear_ratio =
      kept Branch1 branch1 (shear_s s) τ exactly (λ br g. τ ↑ 2 ⊘ (whole 1000 ↑ 2 ⊗ shear_r_square s br g))
      (λ e br g. no_ratio (τ ↑ 2) (whole 1000 ↑ 2 ⊗ shear_r_square s br g) (rw e)) exactly_one
      (shear_below s ok σx σφ τ 1 1 h)

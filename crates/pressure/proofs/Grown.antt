-- A larger stress reaches no less; and one that is larger by a factor reaches no more than a factor more.
use mathlib.Core.Path.{◌≡◌, refl, ap}
use mathlib.Core.Bool.{Bool, true}
use Prim.Native.Nat.{ℕ, zero, suc, ◌+◌, ◌*◌, ◌^◌, ◌≤◌, ◌<◌}
use native.Mathlib.Nat.{mul-pos, mul-lt-mul_of_pos_left, le_of_mul-le-mul_right, pow-le-pow_left, one-le-pow}
use native.Mathlib.Omega.{arith}
use lib.Dec.{leb, lit≤, lit<}
use borrow.Author.Tests.{leb-true, le-leb}
use mathlib.Core.List.{[], ◌∷◌}
use Rattle.algebra.proofs.Nonlinear.{nl, jobs, done, ◌&◌}
use Rattle.algebra.proofs.Powers.{mul_pow}
use Rattle.cylinder.specs.declared.Cylinder.{Cylinder}
use Rattle.cylinder.specs.Fraction.{Fraction}
use Rattle.cylinder.specs.Number.{Number}
use Rattle.cylinder.specs.Resistance.{Branch1, Branch2, branch1, branch2, axial_s, ring_s, shear_s, axial_r, ring_r, shear_r_square}
use Rattle.cylinder.specs.Sum.{Reaches, unloaded, loaded, axial_test, ring_test, shear_test, AxialReaches, RingReaches, ShearReaches, Over}
use Rattle.cylinder.proofs.Limits.{Sound}
use Rattle.cylinder.proofs.SumBounds.{axial_bracket, ring_bracket, shear_bracket}
use Rattle.cylinder.proofs.Verdict.{sum_over_down}

-- in whole numbers: β D X ≤ N Y ν says that the term of N/D reaches; C, E, G, H are the powers of c, d, g, h
core : (β ν D N D' N' X Y C E G H : ℕ) → 0 < D → 0 < C → N * C * D' ≤ N' * E * D → E * G ≤ H * C → β * (D * X) ≤ N * Y * ν →
    G * β * (D' * X) ≤ N' * Y * (H * ν)
core β ν D N D' N' X Y C E G H dpos cpos more fine h =
    le_of_mul-le-mul_right {k = C * D}
    (nl 8 (β ∷ ν ∷ D ∷ N ∷ D' ∷ N' ∷ X ∷ Y ∷ C ∷ E ∷ G ∷ H ∷ []) (h & more & fine & done) (search jobs depth 60 fits 100000) refl) (mul-pos cpos dpos)

-- σ c ≤ σ' d
abbrev pub Grows : Fraction → Fraction → ℕ → ℕ → Type 0
Grows σ σ' c d = σ.num * c * σ'.den ≤ σ'.num * d * σ.den

grows_pow : (σ σ' : Fraction) (c d n : ℕ) → Grows σ σ' c d → σ.num ^ n * c ^ n * σ'.den ^ n ≤ σ'.num ^ n * d ^ n * σ.den ^ n
grows_pow σ σ' c d n h = simp (← mul_pow) (pow-le-pow_left h n)

-- what makes a stress above 0 stay above 0
grown_pos : (N c D' N' d D : ℕ) → 0 < N → 0 < c → 0 < D' → N * c * D' ≤ N' * d * D → 0 < N'
grown_pos N c D' zero d D npos cpos dpos le = absurd (let some = mul-pos (mul-pos npos cpos) dpos in omega (arith, some, le))
grown_pos N c D' (suc N') d D npos cpos dpos le = omega arith

-- for either kind of branches: the tests at σ and at σ'
module _ (B : Type 0) (branch : Number → B) (S : Number) (σ σ' : Fraction) (c d g h : ℕ) (den : 0 < σ'.den) (cpos : 0 < c) (more : Grows σ σ' c d)
    (test test' : ℕ → ℕ → B → Fraction → Bool)
    (keeps : (b n : ℕ) (x : B) (f : Fraction) → test b n x f ≡ true → test' (g * b) (h * n) x f ≡ true)
    (nought : (n : ℕ) (x : B) (f : Fraction) → test' 0 n x f ≡ true)
    (low : ℕ) (some : Reaches B branch S σ' test' low 1000000) where
  -- every term reaches 0
  zero_reached : (n : ℕ) → Reaches B branch S σ' test' 0 n
  zero_reached n = go some
    where
      go : Reaches B branch S σ' test' low 1000000 → Reaches B branch S σ' test' 0 n
      go (unloaded z e) = unloaded z refl
      go (loaded pos f fden reached inside holds) = loaded pos f fden reached inside (nought n (branch S) f)

  grown : (b n : ℕ) → Reaches B branch S σ test b n → Reaches B branch S σ' test' (g * b) (h * n)
  grown b n (unloaded z e) = at_zero (g * b) (omega (arith, ap (λ (t : ℕ). g * t) e))
    where
      at_zero : (m : ℕ) → m ≡ 0 → Reaches B branch S σ' test' m (h * n)
      at_zero zero e = zero_reached (h * n)
      at_zero (suc m) e = absurd (omega arith)
  grown b n (loaded pos f fden reached inside holds) =
      loaded (grown_pos σ.num c σ'.den σ'.num d σ.den pos cpos den more) f fden reached inside (keeps b n (branch S) f holds)

-- the fifth power against the fourth: axial and ring stress
abbrev pub Fifth : ℕ → ℕ → ℕ → ℕ → Type 0
Fifth c d g h = d ^ 5 * g ^ 4 ≤ h ^ 4 * c ^ 5

-- the square against the first power: shear
abbrev pub Square : ℕ → ℕ → ℕ → ℕ → Type 0
Square c d g h = d ^ 2 * g ≤ h * c ^ 2

fifth_keeps : (σ σ' : Fraction) (c d g h X Y b n : ℕ) → 0 < σ.den → 0 < c → Grows σ σ' c d → Fifth c d g h →
    leb (b ^ 4 * (σ.den * X) ^ 5) ((σ.num * Y) ^ 5 * n ^ 4) ≡ true → leb ((g * b) ^ 4 * (σ'.den * X) ^ 5) ((σ'.num * Y) ^ 5 * (h * n) ^ 4) ≡ true
fifth_keeps σ σ' c d g h X Y b n den cpos more fine e =
    le-leb ((g * b) ^ 4 * (σ'.den * X) ^ 5) ((σ'.num * Y) ^ 5 * (h * n) ^ 4)
    (simp mul_pow
    (core (b ^ 4) (n ^ 4) (σ.den ^ 5) (σ.num ^ 5) (σ'.den ^ 5) (σ'.num ^ 5) (X ^ 5) (Y ^ 5) (c ^ 5) (d ^ 5) (g ^ 4) (h ^ 4) (one-le-pow 5 σ.den den)
    (one-le-pow 5 c cpos) (grows_pow σ σ' c d 5 more) fine
    (simp mul_pow at (leb-true (b ^ 4 * (σ.den * X) ^ 5) ((σ.num * Y) ^ 5 * n ^ 4) e))))

fifth_nought : (D X N Y n : ℕ) → leb (0 ^ 4 * (D * X) ^ 5) ((N * Y) ^ 5 * n ^ 4) ≡ true
fifth_nought D X N Y n = le-leb (0 ^ 4 * (D * X) ^ 5) ((N * Y) ^ 5 * n ^ 4) (omega arith)

square_keeps : (σ σ' : Fraction) (c d g h X Y b n : ℕ) → 0 < σ.den → 0 < c → Grows σ σ' c d → Square c d g h →
    leb (b * (σ.den ^ 2 * X)) (σ.num ^ 2 * Y * n) ≡ true → leb (g * b * (σ'.den ^ 2 * X)) (σ'.num ^ 2 * Y * (h * n)) ≡ true
square_keeps σ σ' c d g h X Y b n den cpos more fine e =
    le-leb _ _
    (core b n (σ.den ^ 2) (σ.num ^ 2) (σ'.den ^ 2) (σ'.num ^ 2) X Y (c ^ 2) (d ^ 2) g h (one-le-pow 2 σ.den den) (one-le-pow 2 c cpos)
    (grows_pow σ σ' c d 2 more) fine (leb-true (b * (σ.den ^ 2 * X)) (σ.num ^ 2 * Y * n) e))

square_nought : (D X N Y n : ℕ) → leb (0 * (D * X)) (N * Y * n) ≡ true
square_nought D X N Y n = le-leb (0 * (D * X)) (N * Y * n) (omega arith)

module _ (s : Cylinder) (ok : Sound s) (σ σ' : Fraction) (c d g h : ℕ) (den : 0 < σ.den) (den' : 0 < σ'.den) (cpos : 0 < c) (more : Grows σ σ' c d) where
  -- a term reaches b/n, and so that of the other stress reaches (g b)/(h n); each stress by itself, as in `SumBounds` of cylinder
  pub axial_grown : Fifth c d g h → (b n : ℕ) → AxialReaches s σ b n → AxialReaches s σ' (g * b) (h * n)
  axial_grown fine =
      grown Branch2 branch2 (axial_s s) σ σ' c d g h den' cpos more (axial_test s σ) (axial_test s σ')
      (λ b n x f. fifth_keeps σ σ' c d g h (1000 * (axial_r s x f).num) (1 * (axial_r s x f).den) b n den cpos more fine)
      (λ n x f. fifth_nought σ'.den (1000 * (axial_r s x f).num) σ'.num (1 * (axial_r s x f).den) n) _ (axial_bracket s ok σ').reached

  pub ring_grown : Fifth c d g h → (b n : ℕ) → RingReaches s σ b n → RingReaches s σ' (g * b) (h * n)
  ring_grown fine =
      grown Branch1 branch1 (ring_s s) σ σ' c d g h den' cpos more (ring_test s σ) (ring_test s σ')
      (λ b n x f. fifth_keeps σ σ' c d g h (1000 * (ring_r s x f).num) (1 * (ring_r s x f).den) b n den cpos more fine)
      (λ n x f. fifth_nought σ'.den (1000 * (ring_r s x f).num) σ'.num (1 * (ring_r s x f).den) n) _ (ring_bracket s ok σ').reached

  pub shear_grown : Square c d g h → (b n : ℕ) → ShearReaches s σ b n → ShearReaches s σ' (g * b) (h * n)
  shear_grown fine =
      grown Branch1 branch1 (shear_s s) σ σ' c d g h den' cpos more (shear_test s σ) (shear_test s σ')
      (λ b n x f. square_keeps σ σ' c d g h (1000 ^ 2 * (shear_r_square s x f).num) (1 ^ 2 * (shear_r_square s x f).den) b n den cpos more fine)
      (λ n x f. square_nought (σ'.den ^ 2) (1000 ^ 2 * (shear_r_square s x f).num) (σ'.num ^ 2) (1 ^ 2 * (shear_r_square s x f).den) n) _
      (shear_bracket s ok σ').reached

-- ---- the sum

-- σ c ≤ σ' d, of fractions
pub record Growth (σ σ' : Fraction) (c d : ℕ) : Type 0 where
  pub den : 0 < σ.den
  pub den' : 0 < σ'.den
  pub some : 0 < c
  pub grows : Grows σ σ' c d

-- the same stress
pub same_stress : (σ : Fraction) → 0 < σ.den → Growth σ σ 1 1
same_stress σ pos = record { den = pos; den' = pos; some = lit< tt; grows = omega arith }

-- a sum that is over x/y is over (g x)/(h y) at the other stresses
pub over_grown : (s : Cylinder) → Sound s → (σx σφ τ σx' σφ' τ' : Fraction) (c d c' d' c'' d'' g h : ℕ) → 0 < g → 0 < h →
    Growth σx σx' c d → Fifth c d g h → Growth σφ σφ' c' d' → Fifth c' d' g h → Growth τ τ' c'' d'' → Square c'' d'' g h →
    (x y : ℕ) → Over s σx σφ τ x y → Over s σx' σφ' τ' (g * x) (h * y)
over_grown s ok σx σφ τ σx' σφ' τ' c d c' d' c'' d'' g h gpos hpos X fx Φ fφ T fτ x y o =
    record {
      b = g * o.b;
      c = g * o.c;
      d = g * o.d;
      N = h * o.N;
      positive = mul-pos hpos o.positive;
      first = axial_grown s ok σx σx' c d g h X.den X.den' X.some X.grows fx o.b o.N o.first;
      second = ring_grown s ok σφ σφ' c' d' g h Φ.den Φ.den' Φ.some Φ.grows fφ o.c o.N o.second;
      third = shear_grown s ok τ τ' c'' d'' g h T.den T.den' T.some T.grows fτ o.d o.N o.third;
      over = more o.b o.c o.d o.N o.over;
    }
  where
    more : (b c d n : ℕ) → x * n < (b + c + d) * y → g * x * (h * n) < (g * b + g * c + g * d) * (h * y)
    more b c d n lt = omega (arith, mul-lt-mul_of_pos_left lt (mul-pos gpos hpos))

-- σ ≤ σ' for each: a sum that is over x/y is so at the larger stresses too
pub over_larger : (s : Cylinder) → Sound s → (σx σφ τ σx' σφ' τ' : Fraction) → Growth σx σx' 1 1 → Growth σφ σφ' 1 1 → Growth τ τ' 1 1 →
    (x y : ℕ) → 0 < y → Over s σx σφ τ x y → Over s σx' σφ' τ' x y
over_larger s ok σx σφ τ σx' σφ' τ' X Φ T x y ypos o =
    sum_over_down _ _ _ (1 * x) (1 * y) x y (omega arith) ypos (omega arith)
    (over_grown s ok σx σφ τ σx' σφ' τ' 1 1 1 1 1 1 1 1 (lit< tt) (lit< tt) X (lit≤ tt) Φ (lit≤ tt) T (lit≤ tt) x y o)

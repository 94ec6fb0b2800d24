-- The slendernesses of Resistance are those of WholeIdeal: the same fractions are reached, and the same bound them.
use mathlib.Core.Path.{◌≡◌, refl, sym, ap, ap₂, ◌∙◌}
use mathlib.Core.Bool.{Bool, true, false, ◌&&◌, ◌||◌}
use Prim.Native.Nat.{ℕ, zero, suc, ◌+◌, ◌*◌, ◌-◌, ◌^◌, ◌≤◌, ◌<◌}
use native.Mathlib.Nat.{mul-pos, one-le-pow}
use native.Mathlib.Omega.{arith}
use lib.Dec.{leb, eqb, lit<}
use borrow.Author.Tests.{leb-true, le-leb}
use Rattle.cylinder.specs.declared.Cylinder.{Cylinder}
use Rattle.cylinder.specs.Fraction.{Fraction, ◌//◌, whole, tenths, hundredths, thousandths, ◌⊕◌, ◌⊗◌, ◌⊘◌, ◌↑◌}
use Rattle.cylinder.specs.Number.{Number, exactly, plus_root, minus_root, scaled}
use Rattle.algebra.specs.Choice.{pick}
use Rattle.cylinder.specs.Ideal.{E, fy, η, Cφ, r/t, t/r, r/l, l/r, axial_short, short_cx, long_cx, ring_short, ideal_ring_short, ideal_ring_long, shear_short, ideal_shear_short_square, ideal_shear_long_square}
use Rattle.cylinder.specs.Resistance.{slender, slender_shear, axial_s, ring_s, shear_s}
use Rattle.cylinder.specs.Cut.{Cut, fraction, root_of}
use Rattle.cylinder.specs.WholeIdeal
use Rattle.algebra.proofs.Powers.{pow_two, pow_three, pow_four, pow_six}
use Rattle.cylinder.proofs.Like.{Like, leb_like, self, again, times, per, plus, minus, power, at_most_lem}
use Rattle.cylinder.proofs.Limits.{Sound, eta_pos}

-- the number of Resistance and the tests in whole numbers answer alike
pub record Agree (S : Number) (c : Cut) : Type 0 where
  pub reaches : (p q : ℕ) → S.reaches (p // q) ≡ c.reaches p q
  pub within : (p q : ℕ) → S.within (p // q) ≡ c.within p q

out_d : (D Z b : ℕ) → 1 * (D ^ 2 * (Z ^ 2 * b)) ≡ Z ^ 2 * (D ^ 2 * b)
out_d D Z b = simp pow_two (omega arith)

out_w : (Z W P a : ℕ) → 1 * (W ^ 2 * a * (Z * P) ^ 2) ≡ Z ^ 2 * ((W * P) ^ 2 * a)
out_w Z W P a = simp pow_two (omega arith)

scale : (D Z W P a b : ℕ) → 0 < Z → leb (D ^ 2 * (Z ^ 2 * b)) (W ^ 2 * a * (Z * P) ^ 2) ≡ leb (D ^ 2 * b) ((W * P) ^ 2 * a)
scale D Z W P a b pos = leb_like 1 (Z ^ 2) _ _ _ _ (lit< tt) (one-le-pow 2 Z pos) (out_d D Z b) (out_w Z W P a)

scale' : (D Z W P a b : ℕ) → 0 < Z → leb (W ^ 2 * a * (Z * P) ^ 2) (D ^ 2 * (Z ^ 2 * b)) ≡ leb ((W * P) ^ 2 * a) (D ^ 2 * b)
scale' D Z W P a b pos = leb_like 1 (Z ^ 2) _ _ _ _ (lit< tt) (one-le-pow 2 Z pos) (out_w Z W P a) (out_d D Z b)

-- a number with a root against x = F Q / P, where its parts are U/Z and W/Z and the root is that of a/b
module _ {u v w x : Fraction} (U Z W a b F Q P : ℕ) (pos : 0 < Z) (hu : Like u U Z) (hv : Like v W Z) (hw : Like w a b) (hx : Like x (F * Q) P) where
  turn : F * Q * Z ≡ Z * F * Q
  turn = omega arith

  turn' : P * Z ≡ Z * P
  turn' = omega arith

  minus_within : (minus_root u v w).within x ≡ leb ((U * P - Z * F * Q) ^ 2 * b) ((W * P) ^ 2 * a)
  minus_within =
      at_most_lem (power (minus hu hx) 2) (times (power hv 2) hw) ∙ ap (λ (z : ℕ). leb ((U * P - z) ^ 2 * (Z ^ 2 * b)) (W ^ 2 * a * (Z * P) ^ 2)) turn
      ∙ scale (U * P - Z * F * Q) Z W P a b pos

  minus_reaches : (minus_root u v w).reaches x ≡ (leb (Z * F * Q) (U * P) && leb ((W * P) ^ 2 * a) ((U * P - Z * F * Q) ^ 2 * b))
  minus_reaches =
      ap₂ ◌&&◌ (at_most_lem hx hu ∙ ap (λ (z : ℕ). leb z (U * P)) turn)
      (at_most_lem (times (power hv 2) hw) (power (minus hu hx) 2) ∙ ap (λ (z : ℕ). leb (W ^ 2 * a * (Z * P) ^ 2) ((U * P - z) ^ 2 * (Z ^ 2 * b))) turn
      ∙ scale' (U * P - Z * F * Q) Z W P a b pos)

  plus_reaches : (plus_root u v w).reaches x ≡ leb ((Z * F * Q - U * P) ^ 2 * b) ((W * P) ^ 2 * a)
  plus_reaches =
      at_most_lem (power (minus hx hu) 2) (times (power hv 2) hw)
      ∙ ap₂ (λ (y z : ℕ). leb ((y - U * P) ^ 2 * (Z ^ 2 * b)) (W ^ 2 * a * z ^ 2)) turn turn'
      ∙ scale (Z * F * Q - U * P) Z W P a b pos

  plus_within : (plus_root u v w).within x ≡ (leb (U * P) (Z * F * Q) && leb ((W * P) ^ 2 * a) ((Z * F * Q - U * P) ^ 2 * b))
  plus_within =
      ap₂ ◌&&◌ (at_most_lem hu hx ∙ ap (λ (z : ℕ). leb (U * P) z) turn)
      (at_most_lem (times (power hv 2) hw) (power (minus hx hu) 2)
      ∙ ap₂ (λ (y z : ℕ). leb (W ^ 2 * a * z ^ 2) ((y - U * P) ^ 2 * (Z ^ 2 * b))) turn turn'
      ∙ scale' (Z * F * Q - U * P) Z W P a b pos)

-- the first part of the test follows from the second
follows : (a b : Bool) → (b ≡ true → a ≡ true) → (a && b) ≡ b
follows true b h = refl
follows false true h = h refl
follows false false h = refl

none_or_some : (X Y W P a b : ℕ) → 0 < W → 0 < a → leb ((W * P) ^ 2 * a) ((Y - X * P) ^ 2 * b) ≡ true → leb (X * P) Y ≡ true
none_or_some X Y W zero a b wpos apos h = le-leb (X * 0) Y (omega arith)
none_or_some X Y W (suc P) a b wpos apos h = le-leb (X * suc P) Y (go (Y - X * suc P) refl)
  where
    go : (d : ℕ) → Y - X * suc P ≡ d → X * suc P ≤ Y
    go zero e =
        absurd
        (none (leb-true _ _ (ap (λ (z : ℕ). leb ((W * suc P) ^ 2 * a) (z ^ 2 * b)) (sym e) ∙ h)))
      where
        none : (W * suc P) ^ 2 * a ≤ 0 ^ 2 * b → ⊥
        none le = omega (arith, mul-pos (one-le-pow 2 (W * suc P) (mul-pos wpos (omega arith))) apos)
    go (suc d) e = omega arith

-- the same for either branch
either : (h : Number → Number) (b : Bool) (x y : Number) (c d : Cut) → Agree (h x) c → Agree (h y) d → Agree (h (pick b x y)) (pick b c d)
either h true x y c d f g = f
either h false x y c d f g = g

cubed : (n a : ℕ) → n * a * a ^ 2 ≡ n * a ^ 3
cubed n a = simp (pow_two, pow_three) (omega arith)

-- fy/g² and fy²/(3 g⁴) at p/q
at_2 : (y p q : ℕ) → Like (whole y ⊘ (p // q) ↑ 2) (y * q ^ 2) (p ^ 2)
at_2 y p q = again (self _ _) 1 1 _ _ (lit< tt) (lit< tt) (omega arith) (omega arith)

at_4 : (y p q : ℕ) → Like (whole y ↑ 2 ⊘ (whole 3 ⊗ (p // q) ↑ 4)) (y ^ 2 * q ^ 4) (3 * p ^ 4)
at_4 y p q = again (self _ _) 1 1 _ _ (lit< tt) (lit< tt) (omega arith) (omega arith)

swap : (F P : ℕ) → F * P ≡ P * F
swap F P = omega arith

turned : (y Q G : ℕ) → y * Q * G ≡ G * y * Q
turned y Q G = omega arith

exact_2 : {f : Fraction} {F G : ℕ} (y : ℕ) → Like f F G → Agree (slender (whole y) (exactly f)) (root_of 2 (fraction (G * y) F))
exact_2 {f} {F} {G} y h =
    record {
      reaches = λ p q. at_most_lem h (at_2 y p q) ∙ ap₂ leb (swap F (p ^ 2)) (turned y (q ^ 2) G);
      within = λ p q. at_most_lem (at_2 y p q) h ∙ ap₂ leb (turned y (q ^ 2) G) (swap F (p ^ 2));
    }

exact_4 : {f : Fraction} {F G : ℕ} (y C : ℕ) → C ≡ 3 * F → Like f F G → Agree (slender_shear (whole y) (exactly f)) (root_of 4 (fraction (G * y ^ 2) C))
exact_4 {f} {F} {G} y C e h =
    record {
      reaches = λ p q. at_most_lem h (at_4 y p q) ∙ ap₂ leb (three (p ^ 4)) (turned (y ^ 2) (q ^ 4) G);
      within = λ p q. at_most_lem (at_4 y p q) h ∙ ap₂ leb (turned (y ^ 2) (q ^ 4) G) (three (p ^ 4));
    }
  where
    three : (P : ℕ) → F * (3 * P) ≡ P * C
    three P = rw e (omega arith)

module _ (s : Cylinder) (ok : Sound s) where
  t/r-like : Like (t/r s) s.wall (200 * s.radius)
  t/r-like = again (self _ _) 1 1 _ _ (lit< tt) (lit< tt) (omega arith) (omega arith)

  pub r/t-like : Like (r/t s) (200 * s.radius) s.wall
  r/t-like = again (self _ _) 1 1 _ _ (lit< tt) (lit< tt) (omega arith) (omega arith)

  pub r/l-like : Like (r/l s) s.radius s.length
  r/l-like = again (self _ _) 1 1 _ _ (lit< tt) (lit< tt) (omega arith) (omega arith)

  l/r-like : Like (l/r s) s.length s.radius
  l/r-like = again (self _ _) 1 1 _ _ (lit< tt) (lit< tt) (omega arith) (omega arith)

  η_like : Like (η s) (WholeIdeal.eta s.edges) 1
  η_like = go (eqb s.edges 11) (eqb s.edges 12)
    where
      go : (a b : Bool) → Like (pick a (whole 6) (pick b (whole 3) (whole 1))) (pick a 6 (pick b 3 1)) 1
      go true b = self 6 1
      go false true = self 3 1
      go false false = self 1 1

  pub Cφ-like : Like (Cφ s) (WholeIdeal.ring_edges s.edges) 4
  Cφ-like = go (eqb s.edges 11) (eqb s.edges 12)
    where
      go : (a b : Bool) → Like (pick a (tenths 1_5) (pick b (hundredths 1_25) (whole 1))) (pick a 6 (pick b 5 4)) 4
      go true b = record { m = 2; k = 5; m_pos = lit< tt; k_pos = lit< tt; num = refl; den = refl }
      go false true = record { m = 1; k = 25; m_pos = lit< tt; k_pos = lit< tt; num = refl; den = refl }
      go false false = record { m = 4; k = 1; m_pos = lit< tt; k_pos = lit< tt; num = refl; den = refl }

  -- the length tests
  pub axial_short_lem : axial_short s ≡ WholeIdeal.axial_is_short s
  axial_short_lem =
      at_most_lem (power l/r-like 2) (again (times (power (self 5 10) 2) r/t-like) 1 100 (50 * s.radius) s.wall (lit< tt) (lit< tt) (omega arith) (omega arith))
      ∙ ap (leb (s.length ^ 2 * s.wall)) (cubed 50 s.radius)

  ring_short_lem : ring_short s ≡ WholeIdeal.ring_is_short s
  ring_short_lem =
      at_most_lem (power l/r-like 2)
      (again (times (power (times (self 163 100) Cφ-like) 2) r/t-like) 1 200 (26569 * WholeIdeal.ring_edges s.edges ^ 2 * s.radius) (800 * s.wall) (lit< tt) (lit< tt)
      (simp pow_two (omega arith)) (omega arith))
      ∙ ap₂ leb (commuted (s.length ^ 2) s.wall) (cubed (26569 * WholeIdeal.ring_edges s.edges ^ 2) s.radius)
    where
      commuted : (a b : ℕ) → a * (800 * b) ≡ 800 * a * b
      commuted a b = omega arith

  shear_short_lem : shear_short s ≡ WholeIdeal.shear_is_short s
  shear_short_lem =
      at_most_lem (power l/r-like 2) (again (times (power (self 87 10) 2) r/t-like) 1 100 (15138 * s.radius) s.wall (lit< tt) (lit< tt) (omega arith) (omega arith))
      ∙ ap (leb (s.length ^ 2 * s.wall)) (cubed 15138 s.radius)

  -- axial
  base_like : Like (thousandths 0_605 ⊗ E s ⊗ t/r s) (121 * s.modulus * s.wall) (40000 * s.radius)
  base_like = again (times (times (self 605 1000) (self s.modulus 1)) t/r-like) 1 5 _ _ (lit< tt) (lit< tt) (omega arith) (omega arith)

  -- fy/g² over 0.605 E (t/r)
  at_Cx : (p q : ℕ) → Like (fy s ⊘ (p // q) ↑ 2 ⊘ (thousandths 0_605 ⊗ E s ⊗ t/r s)) (40000 * s.radius * s.yield_stress * q ^ 2) (p ^ 2 * (121 * s.modulus * s.wall))
  at_Cx p q = again (per (at_2 s.yield_stress p q) base_like) 1 1 _ _ (lit< tt) (lit< tt) (omega arith) (omega arith)

  -- Cx, where it is the fraction F/G
  exact_Cx : {f : Fraction} (F G a b : ℕ) → Like f F G → a ≡ G * (40000 * s.radius * s.yield_stress) → b ≡ 121 * s.modulus * s.wall * F →
      Agree (slender (fy s) (scaled (thousandths 0_605 ⊗ E s ⊗ t/r s) (exactly f))) (root_of 2 (fraction a b))
  exact_Cx F G a b h d e =
      record {
        reaches = λ p q. at_most_lem h (at_Cx p q) ∙ ap₂ leb (up (p ^ 2)) (down (q ^ 2));
        within = λ p q. at_most_lem (at_Cx p q) h ∙ ap₂ leb (down (q ^ 2)) (up (p ^ 2));
      }
    where
      up : (P : ℕ) → F * (P * (121 * s.modulus * s.wall)) ≡ P * b
      up P = rw e (omega arith)

      down : (Q : ℕ) → 40000 * s.radius * s.yield_stress * Q * G ≡ a * Q
      down Q = rw d (omega arith)

  short_Cx : Like (whole 1 ⊕ tenths 1_5 ⊗ r/l s ↑ 2 ⊗ t/r s) (400 * s.length ^ 2 + 3 * s.radius * s.wall) (400 * s.length ^ 2)
  short_Cx =
      again
      (plus (self 1 1)
      (again (times (times (self 15 10) (power r/l-like 2)) t/r-like) 1 (5 * s.radius) (3 * s.radius * s.wall) (400 * s.length ^ 2) (lit< tt)
      (mul-pos {m = 5} (lit< tt) ok.radius) (simp pow_two (omega arith)) (simp pow_two (omega arith))))
      1 1 _ _ (lit< tt) (lit< tt) (omega arith) (omega arith)

  axial_short_agree : Agree (slender (fy s) (scaled (thousandths 0_605 ⊗ E s ⊗ t/r s) (short_cx s))) (WholeIdeal.axial_short_cut s)
  axial_short_agree =
      exact_Cx (400 * s.length ^ 2 + 3 * s.radius * s.wall) (400 * s.length ^ 2) (16000000 * s.radius * s.length ^ 2 * s.yield_stress)
      (121 * s.modulus * s.wall * (400 * s.length ^ 2 + 3 * s.radius * s.wall)) short_Cx (omega arith) refl

  bent_u : Like (whole 1 ⊕ tenths 0_2 ⊘ η s) ((10 * WholeIdeal.eta s.edges + 2) * s.radius) (10 * WholeIdeal.eta s.edges * s.radius)
  bent_u = again (plus (self 1 1) (per (self 2 10) η_like)) s.radius 1 _ _ ok.radius (lit< tt) (omega arith) (omega arith)

  bent_v : Like (tenths 0_4 ⊗ l/r s ⊘ η s) (4 * s.length) (10 * WholeIdeal.eta s.edges * s.radius)
  bent_v = again (per (times (self 4 10) l/r-like) η_like) 1 1 _ _ (lit< tt) (lit< tt) (omega arith) (omega arith)

  bent_pos : 0 < 10 * WholeIdeal.eta s.edges * s.radius
  bent_pos = mul-pos (mul-pos {m = 10} (lit< tt) (eta_pos (eqb s.edges 11) (eqb s.edges 12))) ok.radius

  bent : Number
  bent = minus_root (whole 1 ⊕ tenths 0_2 ⊘ η s) (tenths 0_4 ⊗ l/r s ⊘ η s) (t/r s)

  bent_agree : Agree (slender (fy s) (scaled (thousandths 0_605 ⊗ E s ⊗ t/r s) bent)) (root_of 2 (WholeIdeal.axial_bent s))
  unfolding bent
  bent_agree =
      record {
        reaches = λ p q.
            minus_within _ _ _ _ _ (40000 * s.radius * s.yield_stress) (q ^ 2) (p ^ 2 * (121 * s.modulus * s.wall)) bent_pos bent_u bent_v t/r-like (at_Cx p q)
            ∙ simp (first (p ^ 2), second (q ^ 2), third (p ^ 2));
        within = λ p q.
            minus_reaches _ _ _ _ _ (40000 * s.radius * s.yield_stress) (q ^ 2) (p ^ 2 * (121 * s.modulus * s.wall)) bent_pos bent_u bent_v t/r-like (at_Cx p q)
            ∙ simp (first (p ^ 2), second (q ^ 2), third (p ^ 2));
      }
    where
      first : (P : ℕ) → (10 * WholeIdeal.eta s.edges + 2) * s.radius * (P * (121 * s.modulus * s.wall))
          ≡ (10 * WholeIdeal.eta s.edges + 2) * s.radius * (121 * s.modulus * s.wall) * P
      first P = omega arith

      second : (Q : ℕ) → 10 * WholeIdeal.eta s.edges * s.radius * (40000 * s.radius * s.yield_stress) * Q
          ≡ 400000 * WholeIdeal.eta s.edges * s.radius ^ 2 * s.yield_stress * Q
      second Q = simp pow_two (omega arith)

      third : (P : ℕ) → 4 * s.length * (P * (121 * s.modulus * s.wall)) ≡ 4 * s.length * (121 * s.modulus * s.wall) * P
      third P = omega arith

  floor_agree : Agree (slender (fy s) (scaled (thousandths 0_605 ⊗ E s ⊗ t/r s) (exactly (tenths 0_6)))) (root_of 2 (WholeIdeal.axial_floor s))
  floor_agree = exact_Cx 6 10 (400000 * s.radius * s.yield_stress) (6 * (121 * s.modulus * s.wall)) (self 6 10) (omega arith) (omega arith)

  axial_long_agree : Agree (slender (fy s) (scaled (thousandths 0_605 ⊗ E s ⊗ t/r s) (long_cx s))) (WholeIdeal.axial_long_cut s)
  unfolding bent
  axial_long_agree =
      record {
        reaches = λ p q. ap₂ ◌&&◌ (bent_agree.reaches p q) (floor_agree.reaches p q);
        within = λ p q. ap₂ ◌||◌ (bent_agree.within p q) (floor_agree.within p q);
      }

  -- S of (1)
  pub axial_agree : Agree (axial_s s) (WholeIdeal.axial_cut s)
  axial_agree =
      rw axial_short_lem
      (either (λ x. slender (fy s) (scaled (thousandths 0_605 ⊗ E s ⊗ t/r s) x)) (WholeIdeal.axial_is_short s) (short_cx s) (long_cx s) (WholeIdeal.axial_short_cut s)
      (WholeIdeal.axial_long_cut s) axial_short_agree axial_long_agree)

  -- ring
  ring_v : Like (hundredths 0_92 ⊗ Cφ s ⊗ E s ⊗ r/l s ⊗ t/r s) (23 * WholeIdeal.ring_edges s.edges * s.modulus * s.wall) (20000 * s.length)
  ring_v =
      again (times (times (times (times (self 92 100) Cφ-like) (self s.modulus 1)) r/l-like) t/r-like) 1 (4 * s.radius) _ _ (lit< tt)
      (mul-pos {m = 4} (lit< tt) ok.radius) (omega arith) (omega arith)

  ring_short_agree : Agree (slender (fy s) (ideal_ring_short s)) (WholeIdeal.ring_short_cut s)
  ring_short_agree =
      record {
        reaches = λ p q. at_most_lem root (power (at_2 s.yield_stress p q) 2) ∙ ap₂ leb (up (p ^ 2)) (down (q ^ 2));
        within = λ p q. at_most_lem (power (at_2 s.yield_stress p q) 2) root ∙ ap₂ leb (down (q ^ 2)) (up (p ^ 2));
      }
    where
      W : ℕ
      W = 23 * WholeIdeal.ring_edges s.edges * s.modulus * s.wall

      root : Like ((hundredths 0_92 ⊗ Cφ s ⊗ E s ⊗ r/l s ⊗ t/r s) ↑ 2 ⊗ t/r s) (W ^ 2 * s.wall) ((20000 * s.length) ^ 2 * (200 * s.radius))
      root = times (power ring_v 2) t/r-like

      up : (P : ℕ) → W ^ 2 * s.wall * P ^ 2 ≡ (W * P) ^ 2 * s.wall
      up P = simp pow_two (omega arith)

      down : (Q : ℕ) → (s.yield_stress * Q) ^ 2 * ((20000 * s.length) ^ 2 * (200 * s.radius)) ≡ (20000 * s.length * s.yield_stress * Q) ^ 2 * (200 * s.radius)
      down Q = simp pow_two (omega arith)

  long_like : Like (E s ⊗ t/r s ↑ 2 ⊗ (thousandths 0_275 ⊕ hundredths 2_03 ⊗ (Cφ s ↑ 4 ⊘ (l/r s ↑ 4 ⊗ t/r s ↑ 2))))
      (s.modulus * (44 * s.wall ^ 2 * s.length ^ 4 + 50750 * WholeIdeal.ring_edges s.edges ^ 4 * s.radius ^ 6)) (6400000 * s.radius ^ 2 * s.length ^ 4)
  long_like =
      again
      (times (times (self s.modulus 1) (power t/r-like 2))
      (again
      (plus (again (self 275 1000) 4 25 44 160 (lit< tt) (lit< tt) refl refl)
      (again (times (self 203 100) (per (power Cφ-like 4) (times (power l/r-like 4) (power t/r-like 2)))) 1 160
      (50750 * WholeIdeal.ring_edges s.edges ^ 4 * s.radius ^ 6) (160 * s.length ^ 4 * s.wall ^ 2) (lit< tt) (lit< tt)
      (simp (pow_two, pow_four, pow_six) (omega arith)) (omega arith)))
      1 160 (44 * s.length ^ 4 * s.wall ^ 2 + 50750 * WholeIdeal.ring_edges s.edges ^ 4 * s.radius ^ 6) (160 * s.length ^ 4 * s.wall ^ 2) (lit< tt) (lit< tt)
      (omega arith) (omega arith)))
      1 (s.wall ^ 2) _ _ (lit< tt) (one-le-pow 2 s.wall ok.wall) (omega arith) (simp pow_two (omega arith))

  ring_long_agree : Agree (slender (fy s) (ideal_ring_long s)) (WholeIdeal.ring_long_cut s)
  ring_long_agree = exact_2 s.yield_stress long_like

  -- S of (2)
  pub ring_agree : Agree (ring_s s) (WholeIdeal.ring_cut s)
  ring_agree =
      rw ring_short_lem
      (either (slender (fy s)) (WholeIdeal.ring_is_short s) (ideal_ring_short s) (ideal_ring_long s) (WholeIdeal.ring_short_cut s) (WholeIdeal.ring_long_cut s) ring_short_agree
      ring_long_agree)

  -- shear
  shear_base : Like (hundredths 0_75 ↑ 2 ⊗ E s ↑ 2 ⊗ r/l s ⊗ t/r s ↑ 2) (9 * s.modulus ^ 2 * s.wall ^ 2) (640000 * s.length * s.radius)
  shear_base =
      again (times (times (times (power (self 75 100) 2) (power (self s.modulus 1) 2)) r/l-like) (power t/r-like 2)) 1 (625 * s.radius) _ _ (lit< tt)
      (mul-pos {m = 625} (lit< tt) ok.radius) (omega arith) (simp pow_two (omega arith))

  shear_u : Like (whole 42 ⊗ r/l s ↑ 3 ⊗ t/r s ↑ 2) (42 * s.radius * s.wall ^ 2) (40000 * s.length ^ 3)
  shear_u =
      again (times (times (self 42 1) (power r/l-like 3)) (power t/r-like 2)) 1 (s.radius ^ 2) _ _ (lit< tt) (one-le-pow 2 s.radius ok.radius)
      (simp (pow_two, pow_three) (omega arith)) (simp (pow_two, pow_three) (omega arith))

  shear_pos : 0 < 40000 * s.length ^ 3
  shear_pos = mul-pos {m = 40000} (lit< tt) (one-le-pow 3 s.length ok.length)

  shear_v : Like (whole 1) (40000 * s.length ^ 3) (40000 * s.length ^ 3)
  shear_v = again (self 1 1) (40000 * s.length ^ 3) 1 _ _ shear_pos (lit< tt) (omega arith) (omega arith)

  at_shear : (p q : ℕ) → Like (fy s ↑ 2 ⊘ (whole 3 ⊗ (p // q) ↑ 4) ⊘ (hundredths 0_75 ↑ 2 ⊗ E s ↑ 2 ⊗ r/l s ⊗ t/r s ↑ 2))
      (640000 * s.length * s.radius * s.yield_stress ^ 2 * q ^ 4) (27 * s.modulus ^ 2 * s.wall ^ 2 * p ^ 4)
  at_shear p q = again (per (at_4 s.yield_stress p q) shear_base) 1 1 _ _ (lit< tt) (lit< tt) (omega arith) (omega arith)

  shear_short_agree : Agree (slender_shear (fy s) (ideal_shear_short_square s)) (WholeIdeal.shear_short_cut s)
  shear_short_agree =
      record {
        reaches = λ p q.
            plus_within _ _ _ _ _ F (q ^ 4) (P (p ^ 4)) shear_pos shear_u shear_v t/r-like (at_shear p q)
            ∙ follows _ _
            (none_or_some (42 * s.radius * s.wall ^ 2) (40000 * s.length ^ 3 * F * q ^ 4) (40000 * s.length ^ 3) (P (p ^ 4)) s.wall (200 * s.radius) shear_pos
            ok.wall)
            ∙ simp (first (p ^ 4), second (q ^ 4), third (p ^ 4));
        within = λ p q.
            plus_reaches _ _ _ _ _ F (q ^ 4) (P (p ^ 4)) shear_pos shear_u shear_v t/r-like (at_shear p q)
            ∙ simp (first (p ^ 4), second (q ^ 4), third (p ^ 4));
      }
    where
      F : ℕ
      F = 640000 * s.length * s.radius * s.yield_stress ^ 2

      P : ℕ → ℕ
      P x = 27 * s.modulus ^ 2 * s.wall ^ 2 * x

      first : (x : ℕ) → 42 * s.radius * s.wall ^ 2 * (27 * s.modulus ^ 2 * s.wall ^ 2 * x) ≡ 1134 * s.modulus ^ 2 * s.wall ^ 4 * s.radius * x
      first x = simp (pow_two, pow_four) (omega arith)

      second : (x : ℕ) → 40000 * s.length ^ 3 * (640000 * s.length * s.radius * s.yield_stress ^ 2) * x
          ≡ 25600000000 * s.length ^ 4 * s.radius * s.yield_stress ^ 2 * x
      second x = simp (pow_three, pow_four) (omega arith)

      third : (x : ℕ) → 40000 * s.length ^ 3 * (27 * s.modulus ^ 2 * s.wall ^ 2 * x) ≡ 1080000 * s.modulus ^ 2 * s.length ^ 3 * s.wall ^ 2 * x
      third x = omega arith

  shear_long_like : Like (hundredths 0_25 ↑ 2 ⊗ E s ↑ 2 ⊗ t/r s ↑ 3) (s.modulus ^ 2 * s.wall ^ 3) (128000000 * s.radius ^ 3)
  shear_long_like =
      again (times (times (power (self 25 100) 2) (power (self s.modulus 1) 2)) (power t/r-like 3)) 1 625 _ _ (lit< tt) (lit< tt) (omega arith)
      (simp pow_three (omega arith))

  shear_long_agree : Agree (slender_shear (fy s) (ideal_shear_long_square s)) (WholeIdeal.shear_long_cut s)
  shear_long_agree = exact_4 s.yield_stress (3 * s.modulus ^ 2 * s.wall ^ 3) (omega arith) shear_long_like

  -- S of (3)
  pub shear_agree : Agree (shear_s s) (WholeIdeal.shear_cut s)
  shear_agree =
      rw shear_short_lem
      (either (slender_shear (fy s)) (WholeIdeal.shear_is_short s) (ideal_shear_short_square s) (ideal_shear_long_square s) (WholeIdeal.shear_short_cut s) (WholeIdeal.shear_long_cut s) shear_short_agree
      shear_long_agree)

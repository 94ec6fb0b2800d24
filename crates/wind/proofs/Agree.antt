-- The test of Wind, whether so many kN/m² are enough, is that of WholeWind. Assumes nothing.
use mathlib.Core.Path.{◌≡◌, refl, sym, ap, ap₂, ◌∙◌}
use mathlib.Core.List.{[], ◌∷◌}
use mathlib.Core.Bool.{Bool, true, false, ◌&&◌, ◌||◌}
use Prim.Native.Nat.{ℕ, zero, suc, ◌+◌, ◌*◌, ◌-◌, ◌^◌, ◌≤◌, ◌<◌}
use native.Mathlib.Nat.{mul-pos, one-le-pow, le_trans, mul-sub}
use native.Mathlib.Omega.{arith}
use lib.Dec.{leb, eqb, lit<}
use borrow.Author.Tests.{leb-true, leb-false, le-leb, lt-leb}
use Rattle.algebra.proofs.Ring.{ring, quoted}
use Rattle.algebra.proofs.Tests.{clash}
use Rattle.cylinder.specs.declared.Cylinder.{Cylinder}
use Rattle.cylinder.specs.Fraction.{◌//◌, whole, tenths, hundredths, ◌⊖◌, ◌⊗◌, ◌⊘◌, ◌↑◌}
use Rattle.cylinder.specs.Ideal.{Cφ, r/t, r/l}
use Rattle.cylinder.specs.WholeIdeal.{ring_edges}
use Rattle.cylinder.proofs.Like.{Like, leb_like, self, again, times, per, minus, power, at_most_lem}
use Rattle.cylinder.proofs.Agree.{Cφ-like, r/t-like, r/l-like}
use Rattle.cylinder.proofs.Limits.{Sound, edges_four}
use Rattle.wind.specs.Wind.{is_enough}
use Rattle.wind.specs.WholeWind.{by_cap, above, below, root_within, rest, enough}

-- ---- plain numbers: n is r w, y is m times 25 walls

-- what the sum is over, the difference is over too
over : (v n y : ℕ) → y < (5 + 3 * v) * n → y - 3 * (v * n) < 5 * n
over v zero y h = omega arith
over v (suc n) y h = omega arith

cap_same : (v n y : ℕ) → leb (5 * n) (y - 3 * (v * n)) ≡ leb ((5 + 3 * v) * n) y
cap_same v n y = go (leb ((5 + 3 * v) * n) y) refl
  where
    go : (b : Bool) → leb ((5 + 3 * v) * n) y ≡ b → leb (5 * n) (y - 3 * (v * n)) ≡ leb ((5 + 3 * v) * n) y
    go true e = le-leb (5 * n) (y - 3 * (v * n)) (omega (arith, leb-true ((5 + 3 * v) * n) y e)) ∙ sym e
    go false e = lt-leb (5 * n) (y - 3 * (v * n)) (over v n y (leb-false ((5 + 3 * v) * n) y e)) ∙ sym e

rest_same : (v n m W : ℕ) → 10 * (m * (25 * W) - 3 * (v * n)) - 23 * n ≡ m * (250 * W) - (23 + 30 * v) * n
rest_same v n m W = omega (arith, mul-sub 10 (m * (25 * W)) (3 * (v * n)))

pub or_right : (a b : Bool) → b ≡ true → (a || b) ≡ true
or_right true b e = refl
or_right false b e = e

-- the parts of the test: p, q and r by the root, t by the cap, which is p already
joined : (p q r t : Bool) → (t ≡ true → p ≡ true) → (t ≡ false → r ≡ true → (p ≡ true) × (q ≡ true)) → (p && ((q && r) || t)) ≡ (t || r)
joined true q r true h k = or_right (q && r) true refl
joined false q r true h k = h refl
joined p q true false h k = rw ((k refl refl).0, (k refl refl).1)
joined true true false false h k = refl
joined true false false false h k = refl
joined false q false false h k = refl

root_left : (c r w : ℕ) → 1 * (1 ^ 4 * ((c * r) ^ 2 * (200 * r)) * (23 * (r * w) * 1) ^ 4) ≡ 200 * (279841 * c ^ 2 * r ^ 7 * w ^ 4)
root_left c r w = ring (c ∷ r ∷ w ∷ []) (search quoted depth 60 fits 100000) refl

root_right : (l W e : ℕ) → 1 * (e ^ 4 * (10 ^ 4 * ((4 * l) ^ 2 * W))) ≡ 200 * (800 * l ^ 2 * W * e ^ 4)
root_right l W e = ring (l ∷ W ∷ e ∷ []) (search quoted depth 60 fits 100000) refl

-- ---- the fractions

module _ (s : Cylinder) (ok : Sound s) (w v m : ℕ) where
  -- the fourth power of the root
  root_like : Like (tenths 0_1 ↑ 4 ⊗ ((Cφ s ⊗ r/l s) ↑ 2 ⊗ r/t s)) (1 ^ 4 * ((ring_edges s.edges * s.radius) ^ 2 * (200 * s.radius))) (10 ^ 4 * ((4 * s.length) ^ 2 * s.wall))
  root_like = times (power (self 1 10) 4) (times (power (times (Cφ-like s ok) (r/l-like s ok)) 2) (r/t-like s ok))

  -- m over the gust pressure and r/t
  part_like : Like (whole m ⊘ (w // 1000 ⊗ r/t s)) (5 * (m * s.wall)) (s.radius * w)
  part_like = again (self _ _) 1 200 _ _ (lit< tt) (lit< tt) (omega arith) (omega arith)

  vent_like : Like (tenths 0_6 ⊗ whole v) (3 * v) 5
  vent_like = again (self _ _) 1 2 _ _ (lit< tt) (lit< tt) (omega arith) refl

  -- what is left for δ, and δ/0.46
  abbrev left : ℕ
  left = 5 * (m * s.wall) * 5 - 3 * v * (s.radius * w)

  left_like : Like (whole m ⊘ (w // 1000 ⊗ r/t s) ⊖ tenths 0_6 ⊗ whole v) left (s.radius * w * 5)
  left_like = minus part_like vent_like

  scaled_like : Like ((whole m ⊘ (w // 1000 ⊗ r/t s) ⊖ tenths 0_6 ⊗ whole v) ⊘ hundredths 0_46) (10 * left) (23 * (s.radius * w))
  scaled_like = again (per left_like (self 46 100)) 1 10 _ _ (lit< tt) (lit< tt) (omega arith) (omega arith)

  left_same : left ≡ m * (25 * s.wall) - 3 * (v * (s.radius * w))
  left_same = omega arith

  -- the four parts of the test
  abbrev vented : Bool
  vented = leb (3 * v * (s.radius * w)) (5 * (m * s.wall) * 5)

  abbrev one : Bool
  one = leb (1 * (23 * (s.radius * w))) (10 * left * 1)

  capped : leb (1 * (s.radius * w * 5)) (left * 1) ≡ by_cap s w v m
  capped = ap₂ leb five (one_more left ∙ left_same) ∙ cap_same v (s.radius * w) (m * (25 * s.wall))
    where
      five : 1 * (s.radius * w * 5) ≡ 5 * (s.radius * w)
      five = omega arith

      one_more : (n : ℕ) → n * 1 ≡ n
      one_more n = omega arith

  rooted : leb (1 ^ 4 * ((ring_edges s.edges * s.radius) ^ 2 * (200 * s.radius)) * (23 * (s.radius * w) * 1) ^ 4)
      ((10 * left * 1 - 1 * (23 * (s.radius * w))) ^ 4 * (10 ^ 4 * ((4 * s.length) ^ 2 * s.wall))) ≡ root_within s w (rest s w v m)
  rooted =
      leb_like 1 200 _ _ (above s w) (below s * rest s w v m ^ 4) (lit< tt) (lit< tt) (root_left (ring_edges s.edges) s.radius w)
      (ap (λ (e : ℕ). 1 * (e ^ 4 * (10 ^ 4 * ((4 * s.length) ^ 2 * s.wall)))) rest_is ∙ root_right s.length s.wall (rest s w v m))
    where
      rest_is : 10 * left * 1 - 1 * (23 * (s.radius * w)) ≡ rest s w v m
      rest_is = plain left ∙ ap (λ (n : ℕ). 10 * n - 23 * (s.radius * w)) left_same ∙ rest_same v (s.radius * w) m s.wall
        where
          plain : (n : ℕ) → 10 * n * 1 - 1 * (23 * (s.radius * w)) ≡ 10 * n - 23 * (s.radius * w)
          plain n = omega arith

  parts : is_enough s w v m ≡ (vented && ((one && root_within s w (rest s w v m)) || by_cap s w v m))
  parts =
      ap₂ ◌&&◌ (at_most_lem vent_like part_like)
      (ap₂ ◌||◌ (ap₂ ◌&&◌ (at_most_lem (self 1 1) scaled_like) (at_most_lem root_like (power (minus scaled_like (self 1 1)) 4) ∙ rooted)) (at_most_lem (self 1 1) left_like ∙ capped))

  -- what passes by the cap passes
  cap_vented : by_cap s w v m ≡ true → vented ≡ true
  cap_vented h = le-leb (3 * v * (s.radius * w)) (5 * (m * s.wall) * 5) (omega (arith, leb-true ((5 + 3 * v) * (s.radius * w)) (m * (25 * s.wall)) h))

  pub cap_enough : by_cap s w v m ≡ true → is_enough s w v m ≡ true
  cap_enough h = parts ∙ joined vented one (root_within s w (rest s w v m)) (by_cap s w v m) cap_vented (λ f. absurd (clash h f)) ∙ rw h

edges_pos : (s : Cylinder) → 0 < ring_edges s.edges
edges_pos s = le_trans (lit< tt) (edges_four (eqb s.edges 11) (eqb s.edges 12))

pub above_pos : (s : Cylinder) (w : ℕ) → 0 < s.radius → 0 < w → 0 < above s w
above_pos s w r-pos w-pos =
    mul-pos (mul-pos (mul-pos {m = 279841} (lit< tt) (one-le-pow 2 (ring_edges s.edges) (edges_pos s))) (one-le-pow 7 s.radius r-pos)) (one-le-pow 4 w w-pos)

-- a root that is above 0 is within no difference that is 0
rest_pos : (a b d : ℕ) → 0 < a → leb a (b * d ^ 4) ≡ true → 0 < d
rest_pos a b zero pos h = absurd (none (leb-true a (b * 0 ^ 4) h))
  where
    none : a ≤ b * 0 → ⊥
    none le = omega arith
rest_pos a b (suc d) pos h = omega arith

pub wind_pos : (k n w b : ℕ) → leb (k * (n * w)) b ≡ false → 0 < w
wind_pos k n zero b h = absurd (none (leb-false (k * (n * 0)) b h))
  where
    none : b < k * (n * 0) → ⊥
    none lt = omega arith
wind_pos k n (suc w) b h = omega arith

pub enough_agrees : (s : Cylinder) → Sound s → (w v m : ℕ) → is_enough s w v m ≡ enough s w v m
unfolding enough
enough_agrees s ok w v m = parts s ok w v m ∙ joined (vented s ok w v m) (one s ok w v m) (root_within s w (rest s w v m)) (by_cap s w v m) (cap_vented s ok w v m) by_root
  where
    by_root : by_cap s w v m ≡ false → root_within s w (rest s w v m) ≡ true → (vented s ok w v m ≡ true) × (one s ok w v m ≡ true)
    by_root f h = (le-leb (3 * v * (s.radius * w)) (5 * (m * s.wall) * 5) (omega (arith, pos)), le-leb (1 * (23 * (s.radius * w))) (10 * left s ok w v m * 1) (omega (arith, pos)))
      where
        pos : 0 < rest s w v m
        pos = rest_pos (above s w) (below s) (rest s w v m) (above_pos s w ok.radius (wind_pos (5 + 3 * v) s.radius w _ f)) h

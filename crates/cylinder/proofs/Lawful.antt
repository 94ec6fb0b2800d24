-- What makes two tests a number, and that every form of Cut is one.
use mathlib.Core.Path.{◌≡◌, refl, sym, ap, ◌∙◌}
use mathlib.Core.Bool.{Bool, true, false}
use mathlib.Core.Logic.{◌≢◌, ◌⊎◌, inl, inr}
use Prim.Native.Nat.{ℕ, zero, suc, ◌+◌, ◌*◌, ◌-◌, ◌^◌, ◌≤◌, ◌<◌}
use native.Mathlib.Nat.{mul-le-mul_right, le_of_mul-le-mul_right, pow-lt-pow_left, pow-suc, mul-zero, not-le_of_lt, mul-pos, one-le-pow}
use native.Mathlib.Omega.{arith}
use lib.Dec.{leb}
use borrow.Author.Tests.{leb-true, leb-false, le-leb}
use Rattle.algebra.specs.Choice.{pick}
use Rattle.cylinder.specs.Cut.{Cut, fraction, root_of, over_sum, over_difference, smaller, root_at_most, root_at_least}
use Rattle.algebra.proofs.Powers.{cross_pow, mul_pow, pow_two, pow_four}
use Rattle.algebra.proofs.Tests.{and_true, and_false, or_true, or_false, both_true}
use Rattle.density.proofs.Density.{dense}
use Rattle.density.proofs.Roots.{plus_down, plus_meet, plus_above, minus_down, minus_meet, minus_above}

-- a fraction over p/q that s reaches
pub record Beyond (s : Cut) (p q : ℕ) : Type 0 where
  pub p' : ℕ
  pub q' : ℕ
  pub positive : 0 < q'
  pub over : p * q' < p' * q
  pub reached : s.reaches p' q' ≡ true

-- 0 is reached; so is what is below a fraction that is reached; where p/q is no bound, something over it is reached; a bound is not below what is reached
pub record Lawful (s : Cut) : Type 0 where
  pub nought : (q : ℕ) → s.reaches 0 q ≡ true
  pub down : (p q p' q' : ℕ) → 0 < q → p' * q ≤ p * q' → s.reaches p q ≡ true → s.reaches p' q' ≡ true
  pub above : (p q : ℕ) → 0 < q → s.within p q ≡ false → Beyond s p q
  pub meet : (p q a b : ℕ) → s.reaches p q ≡ true → s.within a b ≡ true → p * b ≤ a * q

pub fraction_lawful : (a b : ℕ) → 0 < b → Lawful (fraction a b)
fraction_lawful a b pos =
    record {
      nought = λ q. le-leb (0 * b) (a * q) (omega arith);
      down = λ p q p' q' qpos le h.
          le-leb (p' * b) (a * q') (le_of_mul-le-mul_right {k = q} (omega (arith, mul-le-mul_right b le, mul-le-mul_right q' (leb-true (p * b) (a * q) h))) qpos);
      above = λ p q qpos h.
          let lt : p * b < a * q = leb-false (a * q) (p * b) h in
          record { p' = a; q' = b; positive = pos; over = lt; reached = le-leb (a * b) (a * b) (omega arith) };
      meet = λ p q c d h g.
          le_of_mul-le-mul_right {k = b} (omega (arith, mul-le-mul_right d (leb-true (p * b) (a * q) h), mul-le-mul_right q (leb-true (a * d) (c * b) g))) pos;
    }

pub zero_pow : (k : ℕ) → k ≢ 0 → 0 ^ k ≡ 0
zero_pow zero nz = absurd (nz refl)
zero_pow (suc k) nz = pow-suc 0 k ∙ mul-zero (0 ^ k)

root_le : (k p q a b : ℕ) → k ≢ 0 → p ^ k * b ^ k ≤ a ^ k * q ^ k → p * b ≤ a * q
root_le k p q a b nz h = let n : ¬ (a * q < p * b) = λ lt. not-le_of_lt (pow-lt-pow_left lt nz) (simp mul_pow h) in omega arith

pub root_lawful : (k : ℕ) (s : Cut) → k ≢ 0 → Lawful s → Lawful (root_of k s)
root_lawful k s nz l =
    record {
      nought = λ q. ap (λ (z : ℕ). s.reaches z (q ^ k)) (zero_pow k nz) ∙ l.nought (q ^ k);
      down = λ p q p' q' pos le h. l.down (p ^ k) (q ^ k) (p' ^ k) (q' ^ k) (one-le-pow k q pos) (cross_pow p q p' q' k le) h;
      above = λ p q pos h. under p q pos (l.above (p ^ k) (q ^ k) (one-le-pow k q pos) h);
      meet = λ p q a b h g. root_le k p q a b nz (l.meet (p ^ k) (q ^ k) (a ^ k) (b ^ k) h g);
    }
  where
    under : (p q : ℕ) → 0 < q → Beyond s (p ^ k) (q ^ k) → Beyond (root_of k s) p q
    under p q pos o =
        let d = dense k o.q' o.p' p q pos (omega (arith, o.over)) in
        record {
          p' = d.0;
          q' = d.1;
          positive = d.2;
          over = d.3;
          reached = l.down o.p' o.q' (d.0 ^ k) (d.1 ^ k) o.positive (omega (arith, d.4)) o.reached;
        }

-- S² √x A = B √y
abbrev pub rooted : ℕ → ℕ → ℕ → ℕ → Cut
rooted A B x y = record { reaches = λ p q. root_at_most (A * p ^ 2) x y (B * q ^ 2); within = λ p q. root_at_least (A * p ^ 2) x y (B * q ^ 2) }

left : (A x p : ℕ) → (A * p ^ 2) ^ 2 * x ≡ p ^ 4 * (A ^ 2 * x)
left A x p = simp (pow_two, pow_four) (omega arith)

right : (A x p : ℕ) → (A * p ^ 2) ^ 2 * x ≡ A ^ 2 * x * p ^ 4
right A x p = simp (pow_two, pow_four) (omega arith)

-- the same number's fourth power is a fraction
pub rooted_lawful : (A B x y : ℕ) → 0 < A → 0 < x → Lawful (rooted A B x y)
rooted_lawful A B x y apos xpos =
    record {
      nought = λ q. reach 0 q ∙ l.nought q;
      down = λ p q p' q' pos le h. reach p' q' ∙ l.down p q p' q' pos le (sym (reach p q) ∙ h);
      above = λ p q pos h.
          let o = l.above p q pos (sym (with_in p q) ∙ h) in
          record { p' = o.p'; q' = o.q'; positive = o.positive; over = o.over; reached = reach o.p' o.q' ∙ o.reached };
      meet = λ p q a b h g. l.meet p q a b (sym (reach p q) ∙ h) (sym (with_in a b) ∙ g);
    }
  where
    f : Cut
    f = root_of 4 (fraction (B ^ 2 * y) (A ^ 2 * x))

    l : Lawful f
    l = root_lawful 4 (fraction (B ^ 2 * y) (A ^ 2 * x)) (omega arith) (fraction_lawful (B ^ 2 * y) (A ^ 2 * x) (mul-pos (one-le-pow 2 A apos) xpos))

    reach : (p q : ℕ) → (rooted A B x y).reaches p q ≡ f.reaches p q
    reach p q = rw (left A x p, right B y q)

    with_in : (p q : ℕ) → (rooted A B x y).within p q ≡ f.within p q
    with_in p q = rw (left A x p, right B y q)

-- a step over A/B
step_over : (s : Cut) (A B : ℕ) → 0 < B → (M : ℕ) → 0 < M → s.reaches (A * M + 1) (B * M) ≡ true → Beyond s A B
step_over s A B pos M mpos h = record { p' = A * M + 1; q' = B * M; positive = mul-pos pos mpos; over = omega arith; reached = h }

pub sum_lawful : (d c e x y : ℕ) → 0 < d → 0 < e → 0 < x → 0 < y → Lawful (over_sum d c e x y)
sum_lawful d c e x y dpos epos xpos ypos =
    record {
      nought = λ q. le-leb ((e * 0) ^ 2 * x) ((d * q - c * 0) ^ 2 * y) (simp pow_two (omega arith));
      down = λ p q p' q' pos le h. le-leb ((e * p') ^ 2 * x) ((d * q' - c * p') ^ 2 * y) (plus_down c e d x y p q p' q' pos le (leb-true _ _ h));
      above = λ p q pos h.
          let m = plus_above c e d x y p q (leb-false _ _ h) in
          step_over (over_sum d c e x y) p q pos m.0 m.1 (le-leb _ _ m.2);
      meet = λ p q a b h g. plus_meet c e d x y p q a b epos dpos xpos ypos (leb-true _ _ h) (leb-true _ _ g);
    }

pub difference_lawful : (d c e x y : ℕ) → 0 < d → 0 < y → Lawful (over_difference d c e x y)
difference_lawful d c e x y dpos ypos =
    record {
      nought = λ q. le-leb ((c * 0 - d * q) ^ 2 * y) ((e * 0) ^ 2 * x) (none q);
      down = λ p q p' q' pos le h. le-leb ((c * p' - d * q') ^ 2 * y) ((e * p') ^ 2 * x) (minus_down c e d x y p q p' q' pos le (leb-true _ _ h));
      above = λ p q pos h.
          let m = minus_above c e d x y p q (cases p q (and_false (leb (d * q) (c * p)) (leb ((e * p) ^ 2 * x) ((c * p - d * q) ^ 2 * y)) h)) in
          step_over (over_difference d c e x y) p q pos m.0 m.1 (le-leb _ _ m.2);
      meet = λ p q a b h g.
          let w = and_true (leb (d * b) (c * a)) (leb ((e * a) ^ 2 * x) ((c * a - d * b) ^ 2 * y)) g in
          minus_meet c e d x y p q a b dpos ypos (leb-true _ _ h) (leb-true _ _ w.0) (leb-true _ _ w.1);
    }
  where
    none : (q : ℕ) → (c * 0 - d * q) ^ 2 * y ≤ (e * 0) ^ 2 * x
    none q = let z : c * 0 - d * q ≡ 0 = omega arith in rw z (simp pow_two (omega arith))

    cases : (p q : ℕ) → (leb (d * q) (c * p) ≡ false) ⊎ (leb ((e * p) ^ 2 * x) ((c * p - d * q) ^ 2 * y) ≡ false) →
        (c * p < d * q) ⊎ ((c * p - d * q) ^ 2 * y < (e * p) ^ 2 * x)
    cases p q (inl h) = inl (leb-false _ _ h)
    cases p q (inr h) = inr (leb-false _ _ h)

pub smaller_lawful : (s t : Cut) → Lawful s → Lawful t → Lawful (smaller s t)
smaller_lawful s t l m =
    record {
      nought = λ q. both_true _ _ (l.nought q) (m.nought q);
      down = λ p q p' q' pos le h.
          let b = and_true (s.reaches p q) (t.reaches p q) h in
          both_true _ _ (l.down p q p' q' pos le b.0) (m.down p q p' q' pos le b.1);
      above = λ p q pos h.
          let b = or_false (s.within p q) (t.within p q) h in
          join p q (l.above p q pos b.0) (m.above p q pos b.1);
      meet = λ p q a b h g.
          let r = and_true (s.reaches p q) (t.reaches p q) h in
          either p q a b r.0 r.1 (or_true (s.within a b) (t.within a b) g);
    }
  where
    either : (p q a b : ℕ) → s.reaches p q ≡ true → t.reaches p q ≡ true → (s.within a b ≡ true) ⊎ (t.within a b ≡ true) → p * b ≤ a * q
    either p q a b h g (inl w) = l.meet p q a b h w
    either p q a b h g (inr w) = m.meet p q a b g w

    join : (p q : ℕ) → Beyond s p q → Beyond t p q → Beyond (smaller s t) p q
    join p q o u = go (leb (o.p' * u.q') (u.p' * o.q')) refl
      where
        go : (b : Bool) → leb (o.p' * u.q') (u.p' * o.q') ≡ b → Beyond (smaller s t) p q
        go true e =
            record {
              p' = o.p';
              q' = o.q';
              positive = o.positive;
              over = o.over;
              reached = both_true _ _ o.reached (m.down u.p' u.q' o.p' o.q' u.positive (leb-true _ _ e) u.reached);
            }
        go false e =
            record {
              p' = u.p';
              q' = u.q';
              positive = u.positive;
              over = u.over;
              reached = both_true _ _ (l.down o.p' o.q' u.p' u.q' o.positive (omega (arith, leb-false (o.p' * u.q') (u.p' * o.q') e)) o.reached) u.reached;
            }

-- whichever of two
pub pick_lawful : (b : Bool) (s t : Cut) → Lawful s → Lawful t → Lawful (pick b s t)
pick_lawful true s t l m = l
pick_lawful false s t l m = m

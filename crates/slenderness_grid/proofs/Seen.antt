-- What bounds of the two branches' terms say of S against p/q. Assumes nothing.
use mathlib.Core.Path.{◌≡◌, refl, sym, ap, ◌∙◌}
use Rattle.std.specs.Prelude.{MatchOption}
use Rattle.std.specs.declared.option.Option.{Option}
use Rattle.std.specs.declared.option.Option.TheVariants.{None, Some}
use mathlib.Core.Bool.{Bool, true, false}
use mathlib.Core.List.{[], ◌∷◌}
use Prim.Native.Nat.{ℕ, ◌-◌, ◌*◌, ◌^◌, ◌<◌}
use native.Mathlib.Nat.{mul_comm}
use native.Mathlib.Omega.{arith}
use borrow.Author.Tests.{leb-false}
use lib.Dec.{leb}
use Rattle.algebra.proofs.Ring.{ring, quoted}
use Rattle.interval.specs.Around.{Lies}
use Rattle.std.specs.declared.cmp.Ordering.{Ordering}
use Rattle.std.specs.declared.cmp.Ordering.TheVariants.{Less, Equal, Greater}
use Rattle.std.specs.Ordering.{is_le, nat_cmp}
use Rattle.std.specs.Cmp.{ranked}
use Rattle.algebra.proofs.Powers.{pow_two}
use Rattle.root_order.specs.Decision.{Decides}
use Rattle.cylinder.specs.declared.Cylinder.{Cylinder}
use Rattle.cylinder.specs.Cut.{root_of}
use Rattle.cylinder.specs.WholeIdeal.{axial_bent, shear_short_cut}
use Rattle.slenderness_terms.specs.TermsFor.{bent_c, bent_d, bent_e, shear_c, shear_d, shear_e}
use Rattle.axial_long.proofs.Row.{axial_bent_row, axial_bent_low}
use Rattle.shear_short.proofs.Row.{shear_short_row}

-- ---- plain numbers

pub square_times : (n x : ℕ) → n * n * x ≡ n ^ 2 * x
square_times n x = ring (n ∷ x ∷ []) (search quoted depth 60 fits 100000) refl

fourth : (a p : ℕ) → a * (p * p * (p * p)) ≡ a * p ^ 4
fourth a p = ring (a ∷ p ∷ []) (search quoted depth 60 fits 100000) refl

-- by what bounds tell, or else exactly
pub seen_or : (A B : ℕ) {c : Bool} (o : Option Ordering) (r : Ordering) {post : Type 0} → Lies o A B → MatchOption o post (λ k. r ≡ k) → (post → is_le r ≡ c) → (r ≡ nat_cmp A B → is_le r ≡ c) → is_le r ≡ c
seen_or A B None r l m exact seen = exact m
seen_or A B (Some k) r l m exact seen = seen (m ∙ l)

-- 0 is at most anything
nought_least : (x y : ℕ) (o : Ordering) → o ≡ nat_cmp (0 ^ 2 * x) y → is_le o ≡ true
nought_least x y Less h = refl
nought_least x y Equal h = refl
nought_least x y Greater h = let lt : y < 0 ^ 2 * x = ranked (0 ^ 2 * x) y Greater h in absurd (omega (arith, simp pow_two at lt))

-- ---- shear, short

module _ (s : Cylinder) (p q : ℕ) where
  -- e p⁴, and d q⁴ - c p⁴
  abbrev pub shear_up : ℕ
  shear_up = shear_e s * (p * p * (p * p))

  abbrev pub shear_rest : ℕ
  shear_rest = q ^ 4 * shear_d s - shear_c s * (p * p * (p * p))

  pub shear_seen : {o : Ordering} → o ≡ nat_cmp (shear_up ^ 2 * s.wall) (shear_rest ^ 2 * (200 * s.radius)) → Decides o (shear_short_cut s) p q
  shear_seen = shear_short_row s p q (mul_comm (q ^ 4) (shear_d s)) (fourth (shear_c s) p) refl (fourth (shear_e s) p)

-- ---- axial stress, long

module _ (s : Cylinder) (p q : ℕ) where
  -- c p², d q² and e p²
  abbrev pub bent_up : ℕ
  bent_up = bent_c s * (p * p)

  abbrev pub bent_grid : ℕ
  bent_grid = q ^ 2 * bent_d s

  abbrev pub bent_root : ℕ
  bent_root = bent_e s * (p * p)

  up : bent_up ≡ bent_c s * p ^ 2
  up = ap (λ (n : ℕ). bent_c s * n) (sym (pow_two p))

  down : bent_grid ≡ bent_d s * q ^ 2
  down = mul_comm (q ^ 2) (bent_d s)

  -- a difference that is 0 is at most anything
  bent_nought : {o : Ordering} → bent_up < bent_grid → o ≡ nat_cmp ((bent_up - bent_grid) ^ 2 * (200 * s.radius)) (bent_root ^ 2 * s.wall) → is_le o ≡ true
  bent_nought {o} lt h = let e : bent_up - bent_grid ≡ 0 = omega arith in nought_least (200 * s.radius) (bent_root ^ 2 * s.wall) o (rw e at h)

  pub bent_seen : (o : Ordering) → o ≡ nat_cmp ((bent_up - bent_grid) ^ 2 * (200 * s.radius)) (bent_root ^ 2 * s.wall) → is_le o ≡ (root_of 2 (axial_bent s)).reaches p q
  bent_seen o h = go (leb bent_grid bent_up) refl
    where
      go : (b : Bool) → leb bent_grid bent_up ≡ b → is_le o ≡ (root_of 2 (axial_bent s)).reaches p q
      go true e = (axial_bent_row s p q up down e refl (ap (λ (n : ℕ). bent_e s * n) (sym (pow_two p))) h).reaches
      go false e = bent_nought (leb-false bent_grid bent_up e) h ∙ (axial_bent_low s p q up down e).reaches

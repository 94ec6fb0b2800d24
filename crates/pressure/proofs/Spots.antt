-- Where the pressure acts, S is the root of a fraction and below 7; P^0.38 is below 6. Their places on the grids.
use mathlib.Core.Path.{◌≡◌, refl, sym, ap, ◌∙◌}
use mathlib.Core.Bool.{Bool, true, false}
use mathlib.Core.Logic.{inl, inr}
use Prim.Native.Nat.{ℕ, ◌+◌, ◌*◌, ◌^◌, ◌≤◌, ◌<◌}
use native.Mathlib.Nat.{mul-pos, mul-le-mul, mul-le-mul_right, mul-lt-mul_of_pos_left, lt_of_mul-lt-mul_right, lt_of_not-le, one-le-pow, pow-le-pow_left}
use native.Mathlib.Omega.{arith}
use lib.Dec.{lit≤, lit<}
use borrow.Author.Tests.{lt-leb}
use Rattle.algebra.specs.Bisection.{bisect, Edge}
use Rattle.algebra.proofs.Bisection.{bisect_edge, edge_unique}
use Rattle.algebra.proofs.Powers.{mul_pow, pow_two}
use Rattle.algebra.proofs.Tests.{clash}
use Rattle.algebra.specs.Choice.{pick}
use Rattle.cylinder.specs.declared.Cylinder.{Cylinder}
use Rattle.cylinder.specs.Fraction.{whole}
use Rattle.cylinder.specs.Ideal.{axial_short}
use Rattle.cylinder.specs.Resistance.{axial_s}
use Rattle.cylinder.specs.WholeIdeal
use Rattle.cylinder.proofs.Like.{Like, self, again, power, at_most_lem}
use Rattle.cylinder.proofs.Limits.{Sound, axial_lawful}
use Rattle.cylinder.proofs.Lawful.{Lawful, fraction_lawful, root_lawful}
use Rattle.cylinder.proofs.Search.{reaches_down}
use Rattle.cylinder.proofs.Agree.{Agree, axial_agree, axial_short_lem}
use Rattle.cylinder.proofs.Far.{axial_short_7}
use Rattle.cylinder.proofs.Placed.{Placed, placed_below, placed_from, misses_over, reaches_over}
use Rattle.pressure.specs.Gain.{P, P38, Acts}
use Rattle.pressure.specs.WholeGain
use Rattle.pressure.proofs.Above.{Tight, root_tight}
use Rattle.pressure.proofs.Enclosed.{Spot}

-- ---- P^0.38

-- N^19 < 6^50 D^19 for N/D at most 156,250,000/1,500,000
six : (N D : ℕ) → 0 < D → N * 1500000 ≤ D * 156250000 → N ^ 19 * 1 ^ 50 < 6 ^ 50 * D ^ 19
six N D pos h = lt_of_mul-lt-mul_right (1500000 ^ 19) (less (N ^ 19) (D ^ 19) (1500000 ^ 19) (156250000 ^ 19) (6 ^ 50) (simp (← mul_pow) (pow-le-pow_left h 19)) (one-le-pow 19 D pos) (lit< tt))
  where
    less : (n d a b c : ℕ) → n * a ≤ d * b → 0 < d → b < c * a → n * 1 ^ 50 * a < c * d * a
    less n d a b c le pos lt = omega (arith, mul-lt-mul_of_pos_left lt pos)

module _ (s : Cylinder) (ok : Sound s) (p : ℕ) where
  P-like : Like (P s p) (p * s.radius ^ 2) (25 * s.modulus * s.wall ^ 2)
  P-like = again (self _ _) 1 40000 _ _ (lit< tt) (lit< tt) (simp pow_two (omega arith)) (simp pow_two (omega arith))

  -- the number of Gain is that in whole numbers
  pub power38_agree : Agree (P38 s p) (WholeGain.P38Cut s p)
  power38_agree =
      record {
        reaches = λ a b. at_most_lem (power (self a b) 50) (power P-like 19);
        within = λ a b. at_most_lem (power P-like 19) (power (self a b) 50);
      }

  den_pos : 0 < 25 * s.modulus * s.wall ^ 2
  den_pos = mul-pos (let some : 0 < 25 * s.modulus = omega arith in some) (one-le-pow 2 s.wall ok.wall)

  pub power38_lawful : Lawful (WholeGain.P38Cut s p)
  power38_lawful = root_lawful 50 _ (omega arith) (fraction_lawful _ _ (one-le-pow 19 (25 * s.modulus * s.wall ^ 2) den_pos))

  pub power38_tight : Tight (WholeGain.P38Cut s p)
  power38_tight = root_tight 50 _ _ (omega arith)

  -- P^0.38 < 6
  pub power38_six : p ≤ 1000000 → (WholeGain.P38Cut s p).reaches 6 1 ≡ false
  power38_six most = lt-leb _ _ (six (p * s.radius ^ 2) (25 * s.modulus * s.wall ^ 2) den_pos small)
    where
      small : p * s.radius ^ 2 * 1500000 ≤ 25 * s.modulus * s.wall ^ 2 * 156250000
      small = simp pow_two (omega (arith, mul-le-mul most (mul-le-mul ok.thick ok.thick), mul-le-mul_right (s.wall * s.wall) ok.modulus))

  -- j is the place of P^0.38
  pub record Placed38 (j : ℕ) : Type 0 where
    pub reached : (WholeGain.P38Cut s p).reaches j WholeGain.Z ≡ true
    pub missed : (WholeGain.P38Cut s p).reaches (j + 1) WholeGain.Z ≡ false

  pub placed38 : p ≤ 1000000 → Placed38 (WholeGain.place38 s p)
  unfolding WholeGain.place38
  placed38 most =
      let e : Edge (λ j. (WholeGain.P38Cut s p).reaches j WholeGain.Z) (bisect (λ j. (WholeGain.P38Cut s p).reaches j WholeGain.Z) 30 0 (6 * WholeGain.Z)) =
      bisect_edge (λ j. (WholeGain.P38Cut s p).reaches j WholeGain.Z) 30 0 (6 * WholeGain.Z) (lit< tt) (lit≤ tt) (power38_lawful.nought WholeGain.Z)
      (misses_over (WholeGain.P38Cut s p) power38_lawful 6 1 (6 * WholeGain.Z) WholeGain.Z (lit< tt) (lit≤ tt) (power38_six most)) in
      record { reached = e.passes; missed = e.fails }

  -- whoever finds such a j by another way has found the same
  pub place38_is : p ≤ 1000000 → (j : ℕ) → Placed38 j → j ≡ WholeGain.place38 s p
  place38_is most j at =
      let at' = placed38 most in
      edge_unique (λ j. (WholeGain.P38Cut s p).reaches j WholeGain.Z) (reaches_down (WholeGain.P38Cut s p) power38_lawful WholeGain.Z (lit< tt)) j (WholeGain.place38 s p)
      (record { passes = at.reached; fails = at.missed }) (record { passes = at'.reached; fails = at'.missed })

  pub few : p ≤ 1000000 → (j : ℕ) → Placed38 j → j < 6 * WholeGain.Z
  few most j at =
      lt_of_not-le (λ le. clash (power38_lawful.down j WholeGain.Z 6 1 (lit< tt) (omega arith) at.reached) (power38_six most))

-- ---- S

module _ (s : Cylinder) (ok : Sound s) where
  module _ (short : axial_short s ≡ true) where
    pub is_short : WholeIdeal.axial_cut s ≡ WholeIdeal.axial_short_cut s
    is_short = ap (λ (b : Bool). pick b (WholeIdeal.axial_short_cut s) (WholeIdeal.axial_long_cut s)) (sym (axial_short_lem s ok) ∙ short)

    pub axial_tight : Tight (WholeIdeal.axial_cut s)
    axial_tight = rw is_short (root_tight 2 _ _ (omega arith))

    -- S < 7
    pub below_7 : (WholeIdeal.axial_cut s).reaches 7 1 ≡ false
    below_7 = rw is_short (axial_short_7 s ok)

    module _ (k q v : ℕ) (at : Placed (WholeIdeal.axial_cut s) k q v) where
      pub small : k < 7 * q
      small = let lt : k * 1 < 7 * q = placed_below (WholeIdeal.axial_cut s) (axial_lawful s ok) k q v at 7 1 below_7 in omega arith

      pub spot : Spot k q
      spot = go ((WholeIdeal.axial_cut s).reaches 2 1) refl
        where
          go : (b : Bool) → (WholeIdeal.axial_cut s).reaches 2 1 ≡ b → Spot k q
          go true e =
              let far : 2 * q ≤ k * 1 = placed_from (WholeIdeal.axial_cut s) (axial_lawful s ok) k q v at 2 1 40 (lit< tt) refl e in
              inl (omega (arith, at.grid, at.fine), omega arith)
          go false e =
              let less : k * 1 < 2 * q = placed_below (WholeIdeal.axial_cut s) (axial_lawful s ok) k q v at 2 1 e in
              inr (omega (arith, at.grid, at.finer e), omega arith)

-- which branch of the gain S is in, by its place
module _ (s : Cylinder) (ok : Sound s) (k q v : ℕ) (at : Placed (WholeIdeal.axial_cut s) k q v) where
  pub place_from_1 : (axial_s s).reaches (whole 1) ≡ true → q ≤ k
  place_from_1 h =
      let le : 1 * q ≤ k * 1 = placed_from (WholeIdeal.axial_cut s) (axial_lawful s ok) k q v at 1 1 20 (lit< tt) refl (sym ((axial_agree s ok).reaches 1 1) ∙ h) in
      omega arith

  pub place_below_1 : (axial_s s).reaches (whole 1) ≡ false → k < q
  place_below_1 h =
      let lt : k * 1 < 1 * q = placed_below (WholeIdeal.axial_cut s) (axial_lawful s ok) k q v at 1 1 (sym ((axial_agree s ok).reaches 1 1) ∙ h) in omega arith

-- S is over 0.7, and so over 0.25
module _ (s : Cylinder) (ok : Sound s) (p : ℕ) (acts : Acts s p) where
  pub over_0·7 : (WholeIdeal.axial_cut s).reaches 7 10 ≡ true
  over_0·7 = reaches_over (WholeIdeal.axial_cut s) (axial_lawful s ok) 7 10 (lit< tt) (sym ((axial_agree s ok).within 7 10) ∙ acts.slender)

  pub over_0·25 : (WholeIdeal.axial_cut s).within 25 100 ≡ false
  over_0·25 = go ((WholeIdeal.axial_cut s).within 25 100) refl
    where
      go : (b : Bool) → (WholeIdeal.axial_cut s).within 25 100 ≡ b → (WholeIdeal.axial_cut s).within 25 100 ≡ false
      go false h = h
      go true h = absurd (let le : 7 * 100 ≤ 25 * 10 = (axial_lawful s ok).meet 7 10 25 100 over_0·7 h in omega arith)

-- The sum with the gain against the sum at the stress σ⁺, which is σx over the larger gain: over at σ⁺ is over with the gain (low),
-- and over with the gain is, but for a part in 2,000,000, over at σ⁺ (high).
use mathlib.Core.Path.{◌≡◌, refl, sym, ◌∙◌}
use mathlib.Core.Bool.{Bool, true, false}
use Prim.Native.Nat.{ℕ, zero, suc, ◌+◌, ◌*◌, ◌-◌, ◌/◌, ◌≤◌, ◌<◌, min}
use native.Mathlib.Nat.{mul-pos, mul-le-mul_left, mul-le-mul_right, lt_of_mul-lt-mul_right}
use native.Mathlib.Omega.{arith}
use lib.Dec.{lit≤, lit<}
use Rattle.cylinder.specs.declared.Cylinder.{Cylinder}
use Rattle.cylinder.specs.Fraction.{Fraction, ◌//◌, whole, ◌⊘◌}
use Rattle.cylinder.specs.Number.{Number, exactly}
use Rattle.cylinder.specs.Resistance.{branch2, axial_s}
use Rattle.cylinder.specs.Exact.{Encloses, SumOver}
use Rattle.cylinder.specs.Sum.{unloaded, loaded, AxialReaches, RingReaches, ShearReaches, Over}
use Rattle.cylinder.specs.Cut.{Cut, as_number}
use Rattle.cylinder.specs.WholeIdeal
use Rattle.cylinder.proofs.Limits.{Sound, axial_lawful}
use Rattle.cylinder.proofs.Lawful.{Lawful}
use Rattle.cylinder.proofs.Agree.{Agree, axial_agree}
use Rattle.cylinder.proofs.Branches.{same2}
use Rattle.cylinder.proofs.Placed.{Placed, grid_pos}
use Rattle.cylinder.proofs.SumBounds.{Bracket, sum_enclosed}
use Rattle.pressure.specs.Gain.{P38, branch_g, gain, Acts}
use Rattle.pressure.specs.GainSum.{AxialGainReaches, unloaded as unloaded_gain, loaded as loaded_gain, OverGain}
use Rattle.pressure.specs.WholeGain.{Z, added_above, added_below, lessened}
use Rattle.pressure.proofs.Paper.{gain_test}
use Rattle.pressure.proofs.Grown.{Growth, same_stress, over_grown, over_larger}
use Rattle.pressure.proofs.Enclosed.{gain_above, gain_below, near}
use Rattle.pressure.proofs.Above.{same_g, Ceiling, ceiling}
use Rattle.pressure.proofs.Spots.{Placed38, power38_agree, power38_lawful, power38_tight, few, axial_tight, small, spot, place_from_1, place_below_1, over_0·25}

-- the branches of S are those of its tests in whole numbers
pub branch_g_agree : (S : Number) (c : Cut) → Agree S c → branch_g S ≡ branch_g (as_number c)
branch_g_agree S c same =
    same_g (branch_g S) (branch_g (as_number c))
    (same2 (branch2 S) (branch2 (as_number c)) (same.within 25 100) (same.within 1 1) (same.within 15 10) (same.reaches 15 10) (same.reaches 2 1))
    (same.reaches 1 1)

-- a gain has a denominator above 0, and is at least 1
pub gain_den : (f : Bool) (h z : Fraction) → 0 < h.den → 0 < z.den → 0 < (gain f h z).den
gain_den true h z a b = let some = mul-pos a b in omega (arith, some)
gain_den false h z a b = let some = mul-pos (mul-pos a b) a in omega (arith, some)

pub gain_one : (f : Bool) (h z : Fraction) → (gain f h z).den ≤ (gain f h z).num
gain_one true h z = omega arith
gain_one false h z = omega arith

-- the sum of σx over the gain, which is taken at h and z, is over x/y
pub record OverLessened (s : Cylinder) (p : ℕ) (σx σφ τ : Fraction) (x y : ℕ) : Type 0 where
  pub h : Fraction
  pub z : Fraction
  pub h_den : 0 < h.den
  pub z_den : 0 < z.den
  pub h_above : (axial_s s).within h ≡ true
  pub z_above : (P38 s p).within z ≡ true
  pub inside : branch_g (exactly h) ≡ branch_g (axial_s s)
  pub over : Over s (σx ⊘ gain (branch_g (axial_s s)).from_1 h z) σφ τ x y

-- a sum with another first term that reaches as much
with_first : {X X' Y W : ℕ → ℕ → Type 0} {x y : ℕ} (o : SumOver X Y W x y) → X' o.b o.N → SumOver X' Y W x y
with_first o f = record { b = o.b; c = o.c; d = o.d; N = o.N; positive = o.positive; first = f; second = o.second; third = o.third; over = o.over }

-- a stress over the gain is 0 where the stress is, and only there
nothing : (N : ℕ) → N ≡ 0 → (H : ℕ) → N * H ≡ 0
nothing zero e H = omega arith
nothing (suc N) e H = absurd (omega arith)

nothing' : (N H : ℕ) → 0 < H → N * H ≡ 0 → N ≡ 0
nothing' zero H pos e = refl
nothing' (suc N) H pos e = absurd (let one : 0 < suc N = omega arith in let some = mul-pos one pos in omega (arith, some))

something : (N H : ℕ) → 0 < N * H → 0 < N
something zero H pos = absurd (omega arith)
something (suc N) H pos = omega arith

-- ---- growth of the stress over the gain, in whole numbers: G/H is the gain
less_growth : (N D G H t : ℕ) → G * (5 * Z) ≤ (5 * Z + 6 * t) * H → N * (5 * Z) * 1 * (D * G) ≤ N * H * 1 * (D * (5 * Z + 6 * t))
less_growth N D G H t h = omega (arith, mul-le-mul_left (N * D) h)

more_growth : (N D G H t u : ℕ) → 15600000 * (t - u) ≤ 5 * Z + 6 * u → (5 * Z + 6 * u) * H ≤ G * (5 * Z) →
    N * H * 2600000 * (D * (5 * Z + 6 * t)) ≤ N * (5 * Z) * 2600001 * (D * G)
more_growth N D G H t u close h =
    let ratio : 2600000 * (5 * Z + 6 * t) ≤ 2600001 * (5 * Z + 6 * u) = omega arith in
    omega (arith, mul-le-mul_left (N * D * H) ratio, mul-le-mul_left (N * D * 2600001) h)

-- what three brackets say of a sum
pub sum_below : (s : Cylinder) (x' y' z' : Fraction) (a a' r r' h h' : ℕ) → Bracket (AxialReaches s x') a a' → Bracket (RingReaches s y') r r' →
    Bracket (ShearReaches s z') h h' → a' < 2000000 → r' < 2000000 → h' < 2000000 → (x y : ℕ) → Over s x' y' z' x y → x * 1000000 < (a' + r' + h') * y
sum_below s x' y' z' a a' r r' h h' A R H la lr lh x y o =
    under o.b o.c o.d o.N (A.below la o.b o.N o.positive o.first) (R.below lr o.c o.N o.positive o.second)
    (H.below lh o.d o.N o.positive o.third) o.over
  where
    under : (b c d n : ℕ) → b * 1000000 ≤ a' * n → c * 1000000 ≤ r' * n → d * 1000000 ≤ h' * n → x * n < (b + c + d) * y → x * 1000000 < (a' + r' + h') * y
    under b c d n f g e lt = lt_of_mul-lt-mul_right n (omega (arith, mul-le-mul_right y f, mul-le-mul_right y g, mul-le-mul_right y e))

module _ (s : Cylinder) (ok : Sound s) (p : ℕ) (most : p ≤ 1000000) (acts : Acts s p) (k q v j : ℕ) (at : Placed (WholeIdeal.axial_cut s) k q v) (at' : Placed38 s ok p j)
    (σx σφ τ : Fraction) (dx : 0 < σx.den) (dφ : 0 < σφ.den) (dτ : 0 < τ.den) where
  abbrev c : Cut
  c = WholeIdeal.axial_cut s

  abbrev from_1 : Bool
  from_1 = (axial_s s).reaches (whole 1)

  abbrev t⁺ : ℕ
  t⁺ = added_above k q j

  abbrev σ⁺ : Fraction
  σ⁺ = lessened σx k q j

  law : Lawful c
  law = axial_lawful s ok

  same : Agree (axial_s s) c
  same = axial_agree s ok

  qpos : 0 < q
  qpos = grid_pos c law k q v at

  far : from_1 ≡ true → q ≤ k
  far = place_from_1 s ok k q v at

  close_by : from_1 ≡ false → k < q
  close_by = place_below_1 s ok k q v at

  lessened_den : 0 < σ⁺.den
  lessened_den = mul-pos dx (omega arith)

  over_den : (h z : Fraction) → 0 < h.den → 0 < z.den → 0 < (σx ⊘ gain from_1 h z).den
  over_den h z a b = let g = gain_den from_1 h z a b in mul-pos dx (omega (arith, g, gain_one from_1 h z))

  u : Ceiling c k q
  u = ceiling c law k q v at (axial_tight s ok acts.short) (over_0·25 s ok p acts)

  -- fractions from S and P^0.38 upward, at hand for a stress of 0
  first_h : (axial_s s).within (u.p // u.r) ≡ true
  first_h = same.within u.p u.r ∙ u.bounded

  first_z : (P38 s p).within ((j + 1) // Z) ≡ true
  first_z = (power38_agree s ok p).within (j + 1) Z ∙ (power38_tight s ok p).bound (j + 1) Z at'.missed

  first_inside : branch_g (exactly (u.p // u.r)) ≡ branch_g (axial_s s)
  first_inside = u.inside ∙ sym (branch_g_agree (axial_s s) c same)

  -- ---- the sum with the gain is that of the stress over the gain
  to_lessened : (x y : ℕ) → OverGain s p σx σφ τ x y → OverLessened s p σx σφ τ x y
  to_lessened x y o = go o.first
    where
      go : AxialGainReaches s p σx o.b o.N → OverLessened s p σx σφ τ x y
      go (unloaded_gain none b) =
          record {
            h = u.p // u.r;
            z = (j + 1) // Z;
            h_den = u.positive;
            z_den = lit< tt;
            h_above = first_h;
            z_above = first_z;
            inside = first_inside;
            over = with_first o (unloaded (nothing σx.num none (gain from_1 (u.p // u.r) ((j + 1) // Z)).den) b);
          }
      go (loaded_gain some g h z g_den h_den z_den g_below h_above z_above g_inside h_inside test) =
          record {
            h = h;
            z = z;
            h_den = h_den;
            z_den = z_den;
            h_above = h_above;
            z_above = z_above;
            inside = h_inside;
            over =
                with_first o
                (loaded (mul-pos some (gain_den from_1 h z h_den z_den)) g g_den g_below g_inside
                (sym (gain_test s σx o.b o.N (branch_g (axial_s s)) g h z) ∙ test));
          }

  from_lessened : (x y : ℕ) → OverLessened s p σx σφ τ x y → OverGain s p σx σφ τ x y
  from_lessened x y o = with_first o.over (go o.over.first)
    where
      go : AxialReaches s (σx ⊘ gain from_1 o.h o.z) o.over.b o.over.N → AxialGainReaches s p σx o.over.b o.over.N
      go (unloaded none b) = unloaded_gain (nothing' σx.num (gain from_1 o.h o.z).den (gain_den from_1 o.h o.z o.h_den o.z_den) none) b
      go (loaded some g g_den g_below g_inside test) =
          loaded_gain (something σx.num (gain from_1 o.h o.z).den some) g o.h o.z g_den o.h_den o.z_den g_below o.h_above o.z_above g_inside o.inside
          (gain_test s σx o.over.b o.over.N (branch_g (axial_s s)) g o.h o.z ∙ test)

  -- over at σ⁺: over with the gain
  pub low : (x y : ℕ) → 0 < y → Over s σ⁺ σφ τ x y → OverGain s p σx σφ τ x y
  low x y ypos o =
      from_lessened x y
      (record {
        h = u.p // u.r;
        z = (j + 1) // Z;
        h_den = u.positive;
        z_den = lit< tt;
        h_above = first_h;
        z_above = first_z;
        inside = first_inside;
        over = over_larger s ok σ⁺ σφ τ (σx ⊘ g) σφ τ grows (same_stress σφ dφ) (same_stress τ dτ) x y ypos o;
      })
    where
      g : Fraction
      g = gain from_1 (u.p // u.r) ((j + 1) // Z)

      grows : Growth σ⁺ (σx ⊘ g) 1 1
      grows =
          record {
            den = lessened_den;
            den' = over_den (u.p // u.r) ((j + 1) // Z) u.positive (lit< tt);
            some = lit< tt;
            grows =
                less_growth σx.num σx.den g.num g.den t⁺
                (gain_above k q j qpos u.p u.r (j + 1) Z from_1 far close_by u.under (omega arith));
          }

  -- over with the gain: nearly over at σ⁺
  high_at : (x y : ℕ) → OverLessened s p σx σφ τ x y → Over s σ⁺ σφ τ (2000000 * x) (2000001 * y)
  high_at x y o =
      over_grown s ok (σx ⊘ g) σφ τ σ⁺ σφ τ 2600000 2600001 1 1 1 1 2000000 2000001 (lit< tt) (lit< tt) grows (lit≤ tt) (same_stress σφ dφ) (lit≤ tt)
      (same_stress τ dτ) (lit≤ tt) x y o.over
    where
      g : Fraction
      g = gain from_1 o.h o.z

      h_over : k * o.h.den ≤ o.h.num * q
      h_over = law.meet k q o.h.num o.h.den at.reached (sym (same.within o.h.num o.h.den) ∙ o.h_above)

      z_over : j * o.z.den ≤ o.z.num * Z
      z_over =
          (power38_lawful s ok p).meet j Z o.z.num o.z.den at'.reached (sym ((power38_agree s ok p).within o.z.num o.z.den) ∙ o.z_above)

      grows : Growth (σx ⊘ g) σ⁺ 2600000 2600001
      grows =
          record {
            den = over_den o.h o.z o.h_den o.z_den;
            den' = lessened_den;
            some = lit< tt;
            grows =
                more_growth σx.num σx.den g.num g.den t⁺ (added_below k q j)
                (near k q j qpos (small s ok acts.short k q v at) (few s ok p most j at') (spot s ok acts.short k q v at))
                (gain_below k q j qpos o.h.num o.h.den o.z.num o.z.den from_1 close_by h_over z_over);
          }

  -- a stress of 0 has no gain
  nought_at : σx.num ≡ 0 → (x y : ℕ) → 0 < y → OverLessened s p σx σφ τ x y → Over s σ⁺ σφ τ x y
  nought_at none x y ypos o =
      over_larger s ok (σx ⊘ gain from_1 o.h o.z) σφ τ σ⁺ σφ τ
      (record {
        den = over_den o.h o.z o.h_den o.z_den;
        den' = lessened_den;
        some = lit< tt;
        grows = nought σx.num none (gain from_1 o.h o.z).den σ⁺.den (σx ⊘ gain from_1 o.h o.z).den;
      })
      (same_stress σφ dφ) (same_stress τ dτ) x y ypos o.over
    where
      nought : (N : ℕ) → N ≡ 0 → (H D E : ℕ) → N * H * 1 * D ≤ N * (5 * Z) * 1 * E
      nought zero e H D E = omega arith
      nought (suc N) e H D E = absurd (omega arith)

  -- the gain is at least 1, so it takes nothing from the sum
  less_at : (x y : ℕ) → 0 < y → OverLessened s p σx σφ τ x y → Over s σx σφ τ x y
  less_at x y ypos o =
      over_larger s ok (σx ⊘ gain from_1 o.h o.z) σφ τ σx σφ τ
      (record {
        den = over_den o.h o.z o.h_den o.z_den;
        den' = dx;
        some = lit< tt;
        grows = no_more σx.num σx.den (gain from_1 o.h o.z).num (gain from_1 o.h o.z).den (gain_one from_1 o.h o.z);
      })
      (same_stress σφ dφ) (same_stress τ dτ) x y ypos o.over
    where
      no_more : (N D G H : ℕ) → H ≤ G → N * H * 1 * D ≤ N * 1 * (D * G)
      no_more N D G H le = omega (arith, mul-le-mul_left (N * D) le)

  pub high : (x y : ℕ) → OverGain s p σx σφ τ x y → Over s σ⁺ σφ τ (2000000 * x) (2000001 * y)
  high x y o = high_at x y (to_lessened x y o)

  pub high_nought : σx.num ≡ 0 → (x y : ℕ) → 0 < y → OverGain s p σx σφ τ x y → Over s σ⁺ σφ τ x y
  high_nought none x y ypos o = nought_at none x y ypos (to_lessened x y o)

  pub less : (x y : ℕ) → 0 < y → OverGain s p σx σφ τ x y → Over s σx σφ τ x y
  less x y ypos o = less_at x y ypos (to_lessened x y o)

  -- ---- the bounds: three brackets at σ⁺, and a millionth more above where σx is not 0
  module _ (a a' r r' h h' more : ℕ) (A : Bracket (AxialReaches s σ⁺) a a') (R : Bracket (RingReaches s σφ) r r') (H : Bracket (ShearReaches s τ) h h')
      (extra : 0 < σx.num → 1 ≤ more) (room : more ≤ 95) where
    pub with_right : Encloses (OverGain s p σx σφ τ) (min 20000 ((a + r + h) / 100)) (min 20000 ((a' + r' + h' + more + 99) / 100))
    with_right =
        record {
          at_least = λ u v lt. low u v (some u v lt) ((sum_enclosed A R H more room).0.at_least u v lt);
          at_most_lem = λ under o. go σx.num refl under o;
          L-most = omega arith;
          U-most = omega arith;
        }
      where
        some : (u v : ℕ) → u * 10000 < min 20000 ((a + r + h) / 100) * v → 0 < v
        some u zero lt = omega arith
        some u (suc v) lt = omega arith

        U : ℕ
        U = min 20000 ((a' + r' + h' + more + 99) / 100)

        go : (N : ℕ) → σx.num ≡ N → U < 20000 → OverGain s p σx σφ τ U 10000 → ⊥
        go zero none under o =
            let lt : U * 1000000 < (a' + r' + h') * 10000 =
            sum_below s σ⁺ σφ τ a a' r r' h h' A R H (omega arith) (omega arith) (omega arith) U 10000 (high_nought none U 10000 (lit< tt) o) in
            omega arith
        go (suc N) some under o =
            let one : 1 ≤ more = extra (omega arith) in
            let lt : 2000000 * U * 1000000 < (a' + r' + h') * (2000001 * 10000) =
            sum_below s σ⁺ σφ τ a a' r r' h h' A R H (omega arith) (omega arith) (omega arith) (2000000 * U) (2000001 * 10000) (high U 10000 o) in
            omega arith

    pub with_close : min 20000 ((a' + r' + h' + more + 99) / 100) ≤ min 20000 ((a + r + h) / 100) + 2
    with_close = omega (arith, A.close, R.close, H.close)

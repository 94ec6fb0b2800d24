-- The rule of the test: κ⁺ fits, and the gain applies; κ⁻ does not fit, and it does not apply; else the two sides are near.
use mathlib.Core.Path.{◌≡◌, refl, sym, subst, ◌∙◌}
use mathlib.Core.Bool.{Bool, true, false}
use Prim.Native.Nat.{ℕ, zero, suc, ◌+◌, ◌*◌, ◌-◌, ◌≤◌, ◌<◌, max}
use native.Mathlib.Nat.{mul-pos, mul-le-mul, mul-le-mul_left, mul-le-mul_right, le_of_mul-le-mul_right, lt_of_not-le}
use native.Mathlib.Omega.{arith}
use lib.Dec.{lit≤, lit<}
use Rattle.algebra.proofs.Tests.{clash}
use Rattle.cylinder.specs.declared.Cylinder.{Cylinder}
use Rattle.cylinder.specs.Fraction.{Fraction, ◌//◌, whole, thousandths, ◌⊗◌}
use Rattle.cylinder.specs.Resistance.{κ2, tolerance, axial_s}
use Rattle.cylinder.specs.Cut.{Cut, as_number}
use Rattle.cylinder.specs.Factor.{Factor}
use Rattle.cylinder.specs.WholeIdeal
use Rattle.cylinder.proofs.Limits.{Sound, axial_lawful}
use Rattle.cylinder.proofs.Lawful.{Lawful}
use Rattle.cylinder.proofs.Agree.{Agree, axial_agree}
use Rattle.cylinder.proofs.Like.{Like, self, again, times, plus}
use Rattle.cylinder.proofs.Curves.{κ2_like}
use Rattle.cylinder.proofs.Placed.{Placed, grid_pos, placed_from}
use Rattle.pressure.specs.Gain.{BranchG, branch_g, gain, Acts}
use Rattle.pressure.specs.GainTest.{A, fits, κ, FromBelow, FromAbove, Broken, Doubt}
use Rattle.pressure.specs.WholeGain
use Rattle.pressure.specs.WholeGain.{Z, added_above, added_below, reduced, fits_above, fits_below}
use Rattle.pressure.proofs.Enclosed.{gain_above, gain_below, near}
use Rattle.pressure.proofs.Above.{Ceiling, Floor, ceiling, floor}
use Rattle.pressure.proofs.Spots.{Placed38, power38_agree, power38_lawful, power38_tight, few, axial_tight, small, spot, place_from_1, place_below_1, over_0·7, over_0·25}
use Rattle.pressure.proofs.Reduced.{reduced_falls, reduced_den, reduced_slow}
use Rattle.pressure.proofs.WithGain.{branch_g_agree, gain_den}
use Rattle.pressure.proofs.Fits.{Keeps, fits_like, fits_keeps, keeps_fits, whole_keeps, keeps_whole, keeps_down, exceeds_like, room_down, room_exceeds, breaks_more, room_less}

-- two bounds multiplied
both : (a b c d e f g h : ℕ) → a * b ≤ c * d → e * f ≤ g * h → a * e * (b * f) ≤ c * g * (d * h)
both a b c d e f g h p q = omega (arith, mul-le-mul p q)

-- the same of a curve's step and the gain's: with C/D and c/d, together at most e/g
step : (F N M G Γ H C D c d g e : ℕ) → 0 < C * c → F * C * M ≤ N * (G * D) → Γ * c ≤ H * d → D * d * g ≤ e * (C * c) → F * Γ * M * g ≤ N * H * G * e
step F N M G Γ H C D c d g e pos slow gains fine =
    le_of_mul-le-mul_right {k = C * c} (last (F * Γ * M) (N * H * G) (C * c) (D * d) (first F N M G Γ H C D c d slow gains) fine) pos
  where
    first : (F N M G Γ H C D c d : ℕ) → F * C * M ≤ N * (G * D) → Γ * c ≤ H * d → F * Γ * M * (C * c) ≤ N * H * G * (D * d)
    first F N M G Γ H C D c d h k = omega (arith, mul-le-mul h k)

    last : (P Q x y : ℕ) → P * x ≤ Q * y → y * g ≤ e * x → P * g * x ≤ Q * e * x
    last P Q x y h k = omega (arith, mul-le-mul_right g h, mul-le-mul_left Q k)

-- 1/1000 more
turn : (α β n m : ℕ) → Keeps ((α * 1000 + 1 * β) * m) (β * 1000 * n) (β * 1000 * m) → Keeps (1000 * (α * m) + β * m) (1000 * (β * n)) (1000 * (β * m))
turn α β n m h = alike (omega arith) (omega arith) (omega arith) h
  where
    alike : {X Y W X' Y' W' : ℕ} → X ≡ X' → Y ≡ Y' → W ≡ W' → Keeps X Y W → Keeps X' Y' W'
    alike a b c h = rw (← a, ← b, ← c) h

-- one that is missed is over what is reached
missed_over : (s : Cut) → Lawful s → (a b p q : ℕ) → 0 < b → s.reaches a b ≡ true → s.reaches p q ≡ false → a * q ≤ p * b
missed_over s law a b p q pos r out =
    let lt : a * q < p * b = lt_of_not-le (λ le. clash (law.down a b p q pos le r) out) in omega arith

module _ (s : Cylinder) (ok : Sound s) (p : ℕ) (most : p ≤ 1000000) (acts : Acts s p) (k q v j : ℕ) (at : Placed (WholeIdeal.axial_cut s) k q v) (at' : Placed38 s ok p j)
    (i : ℕ) (some_i : i ≤ 2000) where
  abbrev c : Cut
  c = WholeIdeal.axial_cut s

  abbrev from_1 : Bool
  from_1 = (axial_s s).reaches (whole 1)

  -- the imperfections that the test reads, and their excess
  abbrev d : Fraction
  d = thousandths (max 1000 i)

  abbrev e : ℕ
  e = i - 1000

  abbrev F : Factor
  F = reduced c e

  abbrev α : ℕ
  α = p * s.radius

  abbrev β : ℕ
  β = 5000 * s.yield_stress * s.wall

  -- κ⁺ is n⁺/m⁺, and κ⁻ is n⁻/m⁻
  abbrev n⁺ : ℕ
  n⁺ = F.num k q * (5 * Z + 6 * added_above k q j)

  abbrev m⁺ : ℕ
  m⁺ = F.den k q * (5 * Z)

  abbrev n⁻ : ℕ
  n⁻ = F.num (k + 1) q * (5 * Z + 6 * added_below k q j)

  abbrev m⁻ : ℕ
  m⁻ = F.den (k + 1) q * (5 * Z)

  law : Lawful c
  law = axial_lawful s ok

  same : Agree (axial_s s) c
  same = axial_agree s ok

  qpos : 0 < q
  qpos = grid_pos c law k q v at

  far : from_1 ≡ true → q ≤ k
  far = place_from_1 s ok k q v at

  close_by : from_1 ≡ false → k < q
  close_by = place_below_1 s ok k q v at

  k_pos : 0 < k
  k_pos = let le : 7 * q ≤ k * 10 = placed_from c law k q v at 7 10 14 (lit< tt) refl (over_0·7 s ok p acts) in let pos = qpos in omega (arith, le, pos)

  -- what bounds S, or is reached in its branches, is above 0
  pub bound_pos : (a b : ℕ) → 0 < b → c.within a b ≡ true → 0 < a
  bound_pos a b pos w = let le : 7 * b ≤ a * 10 = law.meet 7 10 a b (over_0·7 s ok p acts) w in omega arith

  pub bpos : 0 < β
  bpos = mul-pos (mul-pos {m = 5000} (lit< tt) ok.yield) ok.wall

  m⁺-pos : 0 < m⁺
  m⁺-pos = mul-pos (reduced_den c e k q qpos k_pos) (lit< tt)

  m⁻-pos : 0 < m⁻
  m⁻-pos = mul-pos (reduced_den c e (k + 1) q qpos (omega arith)) (lit< tt)

  pub A-like : Like (A s p) α β
  A-like = again (self _ _) 1 200 _ _ (lit< tt) (lit< tt) (omega arith) (omega arith)

  branches : branch_g (axial_s s) ≡ branch_g (as_number c)
  branches = branch_g_agree (axial_s s) c same

  -- a shell with these imperfections, to cite the law of the curves
  abbrev with-i : Cylinder
  with-i =
      record {
        radius = s.radius;
        wall = s.wall;
        length = s.length;
        modulus = s.modulus;
        yield_stress = s.yield_stress;
        edges = s.edges;
        imperfection = i;
      }

  abbrev N : Fraction → Fraction → Fraction → ℕ
  N g h z = F.num g.num g.den * (gain from_1 h z).num

  abbrev M : Fraction → Fraction → Fraction → ℕ
  M g h z = F.den g.num g.den * (gain from_1 h z).den

  pub κ_like : (g h z : Fraction) → Like (κ d (branch_g (axial_s s)) g h z) (N g h z) (M g h z)
  κ_like g h z =
      times
      (subst (λ (B : BranchG). Like (κ2 B.curves g ⊗ tolerance B.curves.from_1·5 d g) (F.num g.num g.den) (F.den g.num g.den)) (sym branches)
      (κ2_like with-i some_i c g.num g.den))
      (self (gain from_1 h z).num (gain from_1 h z).den)

  pub M-pos : (g h z : Fraction) → 0 < g.num → 0 < g.den → 0 < h.den → 0 < z.den → 0 < M g h z
  M-pos g h z a b f t = mul-pos (reduced_den c e g.num g.den b a) (gain_den from_1 h z f t)

  -- from below: at most κ⁺
  below_up : (u : FromBelow s p) → N u.g u.h u.z * m⁺ ≤ n⁺ * M u.g u.h u.z
  below_up u =
      both _ (F.den k q) (F.num k q) _ _ (5 * Z) (5 * Z + 6 * added_above k q j) _
      (reduced_falls c e k q u.g.num u.g.den
      (law.meet k q u.g.num u.g.den at.reached (sym (same.within u.g.num u.g.den) ∙ u.g_above)))
      (gain_above k q j qpos u.h.num u.h.den u.z.num u.z.den from_1 far close_by
      (missed_over c law u.h.num u.h.den (k + 1) q u.h_den (sym (same.reaches u.h.num u.h.den) ∙ u.h_below) at.missed)
      (missed_over (WholeGain.P38Cut s p) (power38_lawful s ok p) u.z.num u.z.den (j + 1) Z u.z_den
      (sym ((power38_agree s ok p).reaches u.z.num u.z.den) ∙ u.z_below) at'.missed))

  -- κ⁺ fits: the gain applies
  pub with_rule : fits_above s p e k q j ≡ true → ¬ (Broken s p d)
  with_rule h b =
      let u : FromBelow s p = b.bound in
      let pos : 0 < M u.g u.h u.z =
      M-pos u.g u.h u.z (bound_pos u.g.num u.g.den u.g_den (sym (same.within u.g.num u.g.den) ∙ u.g_above)) u.g_den u.h_den u.z_den in
      clash
      (keeps_fits α β (N u.g u.h u.z) (M u.g u.h u.z) bpos pos
      (keeps_down α β (N u.g u.h u.z) (M u.g u.h u.z) n⁺ m⁺ m⁺-pos (below_up u) (whole_keeps α β n⁺ m⁺ bpos m⁺-pos h)))
      (sym (fits_like A-like (κ_like u.g u.h u.z)) ∙ b.breaks)

  -- ---- the bounds of κ next to S

  top : Ceiling c k q
  top = ceiling c law k q v at (axial_tight s ok acts.short) (over_0·25 s ok p acts)

  bottom : Floor c k q
  bottom = floor c law k q v at

  bottom_pos : 0 < bottom.p
  bottom_pos = positive bottom.p bottom.r bottom.positive bottom.over
    where
      positive : (a b : ℕ) → 0 < b → k * b ≤ a * q → 0 < a
      positive zero b pos le = absurd (let some = mul-pos k_pos pos in omega (arith, some, le))
      positive (suc a) b pos le = omega arith

  abbrev lowest : FromBelow s p
  lowest =
      record {
        g = top.p // top.r;
        h = bottom.p // bottom.r;
        z = j // Z;
        g_den = top.positive;
        h_den = bottom.positive;
        z_den = lit< tt;
        g_above = same.within top.p top.r ∙ top.bounded;
        h_below = same.reaches bottom.p bottom.r ∙ bottom.reached;
        z_below = (power38_agree s ok p).reaches j Z ∙ at'.reached;
        g_inside = top.inside ∙ sym branches;
        h_inside = bottom.inside ∙ sym branches;
      }

  abbrev highest : FromAbove s p
  highest =
      record {
        g = bottom.p // bottom.r;
        h = top.p // top.r;
        z = (j + 1) // Z;
        g_den = bottom.positive;
        h_den = top.positive;
        z_den = lit< tt;
        g_below = same.reaches bottom.p bottom.r ∙ bottom.reached;
        h_above = same.within top.p top.r ∙ top.bounded;
        z_above = (power38_agree s ok p).within (j + 1) Z ∙ (power38_tight s ok p).bound (j + 1) Z at'.missed;
        g_inside = bottom.inside ∙ sym branches;
        h_inside = top.inside ∙ sym branches;
      }

  abbrev N⁻ : ℕ
  N⁻ = N lowest.g lowest.h lowest.z

  abbrev M⁻ : ℕ
  M⁻ = M lowest.g lowest.h lowest.z

  abbrev N⁺ : ℕ
  N⁺ = N highest.g highest.h highest.z

  abbrev M⁺ : ℕ
  M⁺ = M highest.g highest.h highest.z

  M⁻-pos : 0 < M⁻
  M⁻-pos = M-pos lowest.g lowest.h lowest.z (bound_pos top.p top.r top.positive top.bounded) top.positive bottom.positive (lit< tt)

  M⁺-pos : 0 < M⁺
  M⁺-pos = M-pos highest.g highest.h highest.z bottom_pos bottom.positive top.positive (lit< tt)

  -- κ⁻ is at most the one, and κ⁺ at least the other
  lowest_over : n⁻ * M⁻ ≤ N⁻ * m⁻
  lowest_over =
      both (F.num (k + 1) q) _ _ (F.den (k + 1) q) (5 * Z + 6 * added_below k q j) _ _ (5 * Z)
      (reduced_falls c e top.p top.r (k + 1) q top.under)
      (gain_below k q j qpos bottom.p bottom.r j Z from_1 close_by bottom.over (omega arith))

  highest_under : N⁺ * m⁺ ≤ n⁺ * M⁺
  highest_under =
      both _ (F.den k q) (F.num k q) _ _ (5 * Z) (5 * Z + 6 * added_above k q j) _
      (reduced_falls c e k q bottom.p bottom.r bottom.over)
      (gain_above k q j qpos top.p top.r (j + 1) Z from_1 far close_by top.under (omega arith))

  -- κ⁻ does not fit: the test is broken
  pub without_rule : fits_below s p e k q j ≡ false → Broken s p d
  without_rule h = record { bound = lowest; breaks = fits_like A-like (κ_like lowest.g lowest.h lowest.z) ∙ go (fits (α // β) (N⁻ // M⁻)) refl }
    where
      go : (b : Bool) → fits (α // β) (N⁻ // M⁻) ≡ b → fits (α // β) (N⁻ // M⁻) ≡ false
      go false t = t
      go true t =
          absurd
          (clash (keeps_whole α β n⁻ m⁻ bpos m⁻-pos (keeps_down α β n⁻ m⁻ N⁻ M⁻ M⁻-pos lowest_over (fits_keeps α β N⁻ M⁻ bpos M⁻-pos t))) h)

  -- ---- κ⁺ does not fit and κ⁻ does

  -- κ⁺ is at most κ⁻ (1 + 1/1,600,000)
  ratio : n⁺ * m⁻ * 1600000 ≤ n⁻ * m⁺ * 1600001
  ratio =
      scaled (F.num k q) (5 * Z + 6 * added_above k q j) (F.den (k + 1) q) (F.num (k + 1) q) (5 * Z + 6 * added_below k q j) (F.den k q)
      (step (F.num k q) (F.num (k + 1) q) (F.den (k + 1) q) (F.den k q) (5 * Z + 6 * added_above k q j) (5 * Z + 6 * added_below k q j) (5000000 * 100000000)
      (5000001 * 100000001) 2600000 2600001 1600000 1600001 (lit< tt) (reduced_slow c law k q v at e (omega arith)) gains (lit≤ tt))
    where
      close : 15600000 * (added_above k q j - added_below k q j) ≤ 5 * Z + 6 * added_below k q j
      close = near k q j qpos (small s ok acts.short k q v at) (few s ok p most j at') (spot s ok acts.short k q v at)

      gains : (5 * Z + 6 * added_above k q j) * 2600000 ≤ (5 * Z + 6 * added_below k q j) * 2600001
      gains = plain (added_above k q j) (added_below k q j) close
        where
          plain : (t u : ℕ) → 15600000 * (t - u) ≤ 5 * Z + 6 * u → (5 * Z + 6 * t) * 2600000 ≤ (5 * Z + 6 * u) * 2600001
          plain t u h = omega arith

      scaled : (a b f g h l : ℕ) → a * b * f * 1600000 ≤ g * h * l * 1600001 → a * b * (f * (5 * Z)) * 1600000 ≤ g * h * (l * (5 * Z)) * 1600001
      scaled a b f g h l le = omega arith

  pub unclear_rule : fits_above s p e k q j ≡ false → fits_below s p e k q j ≡ true → Doubt s p d
  unclear_rule up' down' =
      record {
        acts = acts;
        low = lowest;
        breaks = fits_like (plus A-like (self 1 1000)) (κ_like lowest.g lowest.h lowest.z) ∙ over (fits ((α * 1000 + 1 * β) // (β * 1000)) (N⁻ // M⁻)) refl;
        high = highest;
        keeps =
            exceeds_like A-like (κ_like highest.g highest.h highest.z)
            ∙ room_exceeds α β N⁺ M⁺ bpos M⁺-pos (room_down α β N⁺ M⁺ n⁺ m⁺ M⁺-pos highest_under (room_less (α * m⁺) (β * n⁺) (β * m⁺) broken smaller));
      }
    where
      broken : ¬ (Keeps (α * m⁺) (β * n⁺) (β * m⁺))
      broken h = clash (keeps_whole α β n⁺ m⁺ bpos m⁺-pos h) up'

      kept : Keeps (α * m⁻) (β * n⁻) (β * m⁻)
      kept = whole_keeps α β n⁻ m⁻ bpos m⁻-pos down'

      out : (a b f : ℕ) → a * (b * f) ≡ a * b * f
      out a b f = omega arith

      -- κ⁺ c/e fits, and κ⁻ e/c does not
      smaller : Keeps (α * m⁺ * 1600001) (β * n⁺ * 1600000) (β * m⁺ * 1600001)
      smaller =
          rw (← out α m⁺ 1600001, ← out β n⁺ 1600000, ← out β m⁺ 1600001)
          (keeps_down α β (n⁺ * 1600000) (m⁺ * 1600001) n⁻ m⁻ m⁻-pos (omega (arith, ratio)) kept)

      larger : ¬ (Keeps (α * m⁻ * 1600000) (β * n⁻ * 1600001) (β * m⁻ * 1600000))
      larger h =
          broken
          (keeps_down α β n⁺ m⁺ (n⁻ * 1600001) (m⁻ * 1600000) (mul-pos m⁻-pos (lit< tt)) (omega (arith, ratio))
          (rw (out α m⁻ 1600000, out β n⁻ 1600001, out β m⁻ 1600000) h))

      over : (b : Bool) → fits ((α * 1000 + 1 * β) // (β * 1000)) (N⁻ // M⁻) ≡ b → fits ((α * 1000 + 1 * β) // (β * 1000)) (N⁻ // M⁻) ≡ false
      over false t = t
      over true t =
          absurd
          (breaks_more (α * m⁻) (β * n⁻) (β * m⁻) larger kept
          (turn α β n⁻ m⁻
          (keeps_down (α * 1000 + 1 * β) (β * 1000) n⁻ m⁻ N⁻ M⁻ M⁻-pos lowest_over
          (fits_keeps (α * 1000 + 1 * β) (β * 1000) N⁻ M⁻ (mul-pos bpos (lit< tt)) M⁻-pos t))))

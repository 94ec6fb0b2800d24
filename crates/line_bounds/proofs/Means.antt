-- What the code says of the gain is so: `gain_of` means what specs/Means.antt lays down. Assumes nothing.
use mathlib.Core.Path.{◌≡◌, refl, subst}
use mathlib.Core.Bool.{Bool, true, false}
use Prim.Native.Nat.{ℕ, ◌+◌, ◌≤◌}
use Rattle.algebra.specs.Choice.{pick}
use Rattle.algebra.proofs.Tests.{clash}
use Rattle.cylinder.specs.declared.Cylinder.{Cylinder}
use Rattle.cylinder.specs.Fraction.{Fraction}
use Rattle.cylinder.specs.InLimits.{InLimits}
use Rattle.cylinder.specs.WholeIdeal.{axial_cut}
use Rattle.cylinder.specs.Search.{grid, place}
use Rattle.cylinder.proofs.Limits.{Sound, sound, axial_lawful}
use Rattle.cylinder.proofs.Far.{axial_far}
use Rattle.cylinder.proofs.Placed.{Placed}
use Rattle.cylinder.proofs.Search.{part, placed}
use Rattle.pressure.specs.declared.Order.{Order}
use Rattle.pressure.specs.GainTest as test
use Rattle.pressure.specs.WholeGain.{place38, added_above, added_below, acting, tested_at}
use Rattle.pressure.proofs.Spots.{Placed38, placed38}
use Rattle.pressure.proofs.TestRule.{with_rule, without_rule, unclear_rule}
use Rattle.pressure.proofs.Lines.{acts_if, acts_only, tested_most, tested_ratio}
use Rattle.line_bounds.specs.declared.Gain.TheVariants.{Idle, Broken, Applies, Unclear}
use Rattle.line_bounds.specs.Means.{GainMeans}
use Rattle.line_bounds.specs.Places.{kept_at, tested_excess, gain_of}

module _ (o : Order) (s : Cylinder) (w : InLimits s) (p : ℕ) (most : p ≤ 1000000) where
  abbrev ε : ℕ
  ε = tested_excess o s

  abbrev i : ℕ
  i = tested_at o s

  some_i : i ≤ 2000
  some_i = tested_most o s w

  ok : Sound s
  ok = sound s w

  abbrev q : ℕ
  q = grid (axial_cut s)

  abbrev k : ℕ
  k = place (axial_cut s) q

  abbrev j : ℕ
  j = place38 s p

  abbrev v : ℕ
  v = part ((axial_cut s).reaches 2 1)

  at : Placed (axial_cut s) k q v
  at = placed (axial_cut s) (axial_lawful s ok) (axial_far s ok)

  at' : Placed38 s ok p j
  at' = placed38 s ok p most

  pub gain_means : GainMeans o s p (gain_of o s p)
  unfolding gain_of
  gain_means = go (acting s p) refl (kept_at s p ε k q (added_above k q j)) refl (kept_at s p ε (k + 1) q (added_below k q j)) refl
    where
      go : (a : Bool) → acting s p ≡ a → (u : Bool) → kept_at s p ε k q (added_above k q j) ≡ u → (b : Bool) → kept_at s p ε (k + 1) q (added_below k q j) ≡ b →
          GainMeans o s p (pick a (pick u (Applies (added_above k q j)) (pick b (Unclear (added_above k q j)) Broken)) Idle)
      go false e u f b g = λ acts. clash (acts_only s ok p acts) e
      go true e true f b g =
          let acts = acts_if s ok p e in
          (acts, subst (λ (d : Fraction). ¬ (test.Broken s p d)) (tested_ratio o s) (with_rule s ok p most acts k q v j at at' i some_i f))
      go true e false f true g = subst (test.Doubt s p) (tested_ratio o s) (unclear_rule s ok p most (acts_if s ok p e) k q v j at at' i some_i f g)
      go true e false f false g =
          let acts = acts_if s ok p e in
          (acts, subst (test.Broken s p) (tested_ratio o s) (without_rule s ok p most acts k q v j at at' i some_i g))

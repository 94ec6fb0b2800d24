-- The place of a number on its grid, and what it says of the limits. Assumes nothing.
use mathlib.Core.Path.{◌≡◌, sym, ap, subst, ◌∙◌}
use mathlib.Core.Bool.{Bool, true, false}
use Prim.Native.Nat.{ℕ, ◌+◌, ◌*◌, ◌/◌, ◌≤◌, ◌<◌}
use native.Mathlib.Decide.{dec_lt}
use native.Mathlib.Omega.{arith}
use lib.Dec.{leb, lit<}
use Rattle.algebra.specs.Bisection.{Edge}
use Rattle.cylinder.specs.declared.Cylinder.{Cylinder}
use Rattle.cylinder.specs.InLimits.{InLimits}
use Rattle.cylinder.specs.Cut.{Cut}
use Rattle.cylinder.specs.Search.{grid, place}
use Rattle.cylinder.proofs.Lawful.{Lawful}
use Rattle.cylinder.proofs.Limits.{sound, axial_lawful, ring_lawful, shear_lawful}
use Rattle.cylinder.proofs.Far.{axial_far, ring_far, shear_far}
use Rattle.cylinder.proofs.Placed.{misses_over, placed_reaches, placed_within, placed_over}
use Rattle.cylinder.proofs.Search.{part, placed, place_is}
use Rattle.cylinder.specs.declared.Stress.{Stress}
use Rattle.cylinder.specs.declared.Stress.TheVariants.{Axial, Ring, Shear}
use Rattle.lengths.specs.Short.{short_of}
use Rattle.lengths.specs.declared.Branch.{Branch}
use Rattle.ideal.specs.Decision.{cut_of, cut_at}
use Rattle.slenderness_grid.specs.Highest.{Highest}
use Rattle.term.specs.declared.Point.{Point}
use Rattle.bounds.specs.Spot.{PlaceOf}
use Rattle.bounds.specs.declared.Placed.{Placed}

-- ---- each slenderness is a number below 536

lawful_true : (k : Stress) (s : Cylinder) → InLimits s → Lawful (cut_of k (short_of k s) s)
lawful_true Axial s ok = axial_lawful s (sound s ok)
lawful_true Ring s ok = ring_lawful s (sound s ok)
lawful_true Shear s ok = shear_lawful s (sound s ok)

far_true : (k : Stress) (s : Cylinder) → InLimits s → (cut_of k (short_of k s) s).reaches 536 1 ≡ false
far_true Axial s ok = axial_far s (sound s ok)
far_true Ring s ok = ring_far s (sound s ok)
far_true Shear s ok = shear_far s (sound s ok)

-- ---- on the grid

grid_near : (c : Cut) → c.reaches 2 1 ≡ false → 200000000 ≡ grid c
unfolding grid
grid_near c e = rw e

grid_far : (c : Cut) → c.reaches 2 1 ≡ true → 8000000 ≡ grid c
unfolding grid
grid_far c e = rw e

module _ (b : Branch) (own : b.short ≡ short_of b.kind b.shell.cylinder) where
  abbrev c : Cut
  c = cut_at b

  law : Lawful c
  law = subst (λ (x : Bool). Lawful (cut_of b.kind x b.shell.cylinder)) (sym own) (lawful_true b.kind b.shell.cylinder b.shell.in_limits)

  out : c.reaches 536 1 ≡ false
  out = ap (λ (x : Bool). (cut_of b.kind x b.shell.cylinder).reaches 536 1) own ∙ far_true b.kind b.shell.cylinder b.shell.in_limits

  found : (p : Point) → p.q ≡ grid c → Edge (λ k. c.reaches k p.q) p.k → PlaceOf c p
  found p e h = record { on_grid = e; placed = place_is c law out p.k (subst (λ (x : ℕ). Edge (λ k. c.reaches k x) p.k) e h) }

  -- below 2
  pub found_near : (p : Point) (k : ℕ) → p.k ≡ k → p.q ≡ 200000000 → Highest c 200000000 400000000 k → k < 400000000 → PlaceOf c p
  found_near p k ek eq h lt = found p (eq ∙ grid_near c below) (rw (ek, eq) (record { passes = h.reached; fails = h.missed lt }))
    where
      below : c.reaches 2 1 ≡ false
      below = misses_over c law (k + 1) 200000000 2 1 (lit< tt) (omega arith) (h.missed lt)

  -- from 2 up
  pub found_far : (p : Point) (k l : ℕ) → p.k ≡ l → p.q ≡ 8000000 → Highest c 200000000 400000000 k → 400000000 ≤ k → Highest c 8000000 4294967295 l → PlaceOf c p
  found_far p k l el eq h le g =
      found p (eq ∙ grid_far c (law.down k 200000000 2 1 (lit< tt) (omega arith) h.reached)) (rw (el, eq) (record { passes = g.reached; fails = next }))
    where
      next : c.reaches (l + 1) 8000000 ≡ false
      next = elim (dec_lt l 4294967295) [
        | yes lt ↦ g.missed lt
        | no ge ↦ misses_over c law 536 1 (l + 1) 8000000 (lit< tt) (omega arith) out
      ]

-- ---- what the place says

module _ (p : Placed) (a b : ℕ) where
  abbrev s : Cut
  s = cut_at p.branch

  abbrev k : ℕ
  k = place s (grid s)

  pub at_over : a * p.point.q < p.point.k * b → false ≡ s.within a b
  at_over lt = sym (placed_over s (law p.branch p.own) k (grid s) (part (s.reaches 2 1)) (placed s (law p.branch p.own) (out p.branch p.own)) a b (rw (p.is_place.on_grid, p.is_place.placed) at lt))

  module _ (pos : 0 < b) (e : 20 * a ≡ 20 * a / b * b) where
    pub at_reaches : leb (a * p.point.q) (p.point.k * b) ≡ s.reaches a b
    at_reaches =
        rw (p.is_place.on_grid, p.is_place.placed)
        (sym (placed_reaches s (law p.branch p.own) k (grid s) (part (s.reaches 2 1)) (placed s (law p.branch p.own) (out p.branch p.own)) a b (20 * a / b) pos e))

    pub at_within : p.point.k * b < a * p.point.q → true ≡ s.within a b
    at_within lt =
        sym (placed_within s (law p.branch p.own) k (grid s) (part (s.reaches 2 1)) (placed s (law p.branch p.own) (out p.branch p.own)) a b (20 * a / b) pos e (rw (p.is_place.on_grid, p.is_place.placed) at lt))

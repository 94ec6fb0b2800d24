-- Laws for the code: what a record that breaks no check allows to be called, the stresses of a group as loads, and the bounds of the sum. Assumes nothing.
use mathlib.Core.Path.{◌≡◌, refl, sym, subst}
use mathlib.Core.Bool.{true}
use Prim.Native.Nat.{ℕ, zero, suc, ◌≤◌, ◌<◌}
use native.Mathlib.Omega.{arith}
use lib.Dec.{ltb}
use borrow.Author.Tests.{leb-true, lt-ltb}
use Rattle.cylinder.specs.declared.ByStress.{ByStress}
use Rattle.cylinder.specs.declared.Cylinder.{Cylinder}
use Rattle.cylinder.specs.Fraction.{whole, ◌//◌}
use Rattle.cylinder.specs.InLimits.{InLimits}
use Rattle.pressure.specs.declared.Order.{Order}
use Rattle.pressure.specs.WholeGain.{tested_at, line_bounds}
use Rattle.term.specs.declared.Load.{Load}
use Rattle.bounds.specs.Stresses.{fraction_of}
use Rattle.answer.specs.Checks.{AllPassed}
use Rattle.line_bounds.specs.declared.Pressed.{Pressed}
use Rattle.line_bounds.specs.declared.Worked.{Worked}
use Rattle.line_bounds.specs.Places.{Whole, WorkedFor, line_of}
use Rattle.line_bounds.proofs.Wanted.{worked_same}
use Rattle.wind.proofs.Stress.{no_wind}
use Rattle.record.specs.declared.Ring.{Ring}
use Rattle.record.specs.declared.Ring.TheVariants.{Stress, Wind}
use Rattle.record.specs.declared.Record.{Record}
use Rattle.record.specs.Right.{ring_stress}
use Rattle.record.specs.Answering.{has_ring, has_load, WorkedOn, bounds_of}
use Rattle.record.specs.Limits.{pressure_of, ring_in_range, wind_allowed, checks, cylinder_of}
use Rattle.record.proofs.Checks.{ranges, cylinder_within}

module _ (c : Record) (all : AllPassed (checks c)) where
  pub wall_fits : c.wall.thickness ≤ 10000
  wall_fits = (ranges c all.0).thickness.most

  pub limits_fit : (s : Cylinder) → s ≡ cylinder_of c.wall → InLimits s
  limits_fit s e = subst InLimits (sym e) (cylinder_within c all)

  pub ring_fits : (ring_in_range c.group.ring ≡ true) × (wind_allowed c.group.ring ≡ true)
  ring_fits = ((ranges c all.0).ring, all.1.1.1.1.1.1.0)

  pub pressure_fits : (p : ℕ) → p ≡ pressure_of c.inner → p ≤ 1000000
  pressure_fits p e = omega (arith, leb-true (pressure_of c.inner) 1000000 all.1.1.1.1.1.1.1.0)

-- a ring stress above 0 comes from one or from wind
pub ring_loaded : (s : Cylinder) (r : Ring) → 0 < ring_stress s r → has_ring r ≡ true
ring_loaded s (Stress σφ) some = lt-ltb 0 σφ some
ring_loaded s (Wind w v) some = refl

-- and where it comes from wind, the gust is above 0
ring_needed : (s : Cylinder) → InLimits s → (r : Ring) → 0 < ring_stress s r → has_load r ≡ true
ring_needed s ok (Stress σφ) some = lt-ltb 0 σφ some
ring_needed s ok (Wind zero v) some = absurd (omega (arith, some, no_wind s ok v))
ring_needed s ok (Wind (suc w) v) some = lt-ltb 0 (suc w) (omega arith)

-- where `has_load` holds, `has_ring` does
pub load_is_ring : (r : Ring) → has_load r ≡ true → has_ring r ≡ true
load_is_ring (Stress σφ) some = some
load_is_ring (Wind w v) some = refl

-- what was worked for the places that a record needs serves it
pub worked_on : {A R H : Type 0} (o : Order) (c : Record) (v : Pressed) (w : Worked) → v.order ≡ o → v.shell.cylinder ≡ cylinder_of c.wall → v.pressure.pascals ≡ pressure_of c.inner →
    (ltb 0 c.group.axial ≡ true → A) → (has_load c.group.ring ≡ true → R) → (ltb 0 c.group.shear ≡ true → H) → WorkedFor v.order v.shell.cylinder v.pressure.pascals A R H w → WorkedOn o c w
worked_on o c v w d e f a r h k =
    subst (λ (x : Order). WorkedOn x c w) d
    (worked_same _ _ _ _ _ e f (λ n. a (lt-ltb 0 c.group.axial n)) (λ n. r (ring_needed (cylinder_of c.wall) (subst InLimits e v.shell.in_limits) c.group.ring n)) (λ n. h (lt-ltb 0 c.group.shear n)) k)

-- a whole stress as a load
load_whole : {x : ℕ} (l : Load) → (l.num ≡ x) × (l.den ≡ 1) → fraction_of l ≡ whole x
load_whole l (n, d) = λ i. n i // d i

pub load_whole_range : {x : ℕ} (l : Load) → (l.num ≡ x) × (l.den ≡ 1) → x ≤ 700000 → Whole l
load_whole_range l (n, d) h = (omega (arith, n, h), d)

-- the bounds of a group's loads are those of its record
pub bounds_are : (o : Order) (c : Record) (w : Pressed) (l : ByStress Load) → w.order ≡ o → w.shell.cylinder ≡ cylinder_of c.wall → w.pressure.pascals ≡ pressure_of c.inner →
    (l.axial.num ≡ c.group.axial) × (l.axial.den ≡ 1) → (l.ring.num ≡ ring_stress (cylinder_of c.wall) c.group.ring) × (l.ring.den ≡ 1) → (l.shear.num ≡ c.group.shear) × (l.shear.den ≡ 1) →
    line_of w.order w.shell.cylinder w.pressure.pascals l ≡ bounds_of o c
unfolding bounds_of
bounds_are o c w l d e f ax ri sh = λ i. line_bounds (e i) (f i) (tested_at (d i) (e i)) (load_whole l.axial ax i) (load_whole l.ring ri i) (load_whole l.shear sh i)

-- What the numbers of the rule are known to be. Nobody has to believe this: `line_bounds_lem` (crate pressure) has that the bounds are right.
use Rattle.std.specs.Prelude.{◌≡◌, ℕ, ◌+◌, ◌*◌, ◌-◌, ◌≤◌, ◌<◌, Bool, true}
use Rattle.cylinder.specs.declared.ByStress.{ByStress}
use Rattle.cylinder.specs.declared.Cylinder.{Cylinder}
use Rattle.cylinder.specs.Fraction.{Fraction, ◌//◌}
use Rattle.cylinder.specs.WholeIdeal.{axial_cut}
use Rattle.cylinder.specs.Search.{Pair, grid, place, sum_bounds}
use Rattle.algebra.specs.Choice.{pick}
use Rattle.term.specs.declared.Load.{Load}
use Rattle.bounds.specs.Spot.{SpotsFor}
use Rattle.bounds.specs.Stresses.{fraction_of}
use Rattle.line_bounds.specs.declared.Gain.{Gain}
use Rattle.line_bounds.specs.declared.Worked.{Worked}
use Rattle.line_bounds.specs.declared.Gain.TheVariants.{Idle, Broken, Applies, Unclear}
use Rattle.pressure.specs.declared.Order.{Order}
use Rattle.pressure.specs.WholeGain.{Z, fits, reduced, extra, place38, added_above, added_below, acting, tested_at, line_bounds}

-- S lies from k/q on, P^0.38 from j/10⁸
pub record Fine (k q j : ℕ) : Type 0 where
  pub some : 0 < q
  pub grid : q ≤ 200000000
  pub slender : k < 7 * q
  pub power : j < 600000000

-- a whole stress within its range
abbrev pub Whole : Load → Type 0
Whole l = (l.num ≤ 700000) × (l.den ≡ 1)

-- κ at k/q, at an excess of e thousandths over the permitted imperfection and with an added part of t, passes the test of the gain
abbrev pub kept_at : Cylinder → ℕ → ℕ → ℕ → ℕ → ℕ → Bool
kept_at s p e k q t =
    fits (p * s.radius) (5000 * s.yield_stress * s.wall) ((reduced (axial_cut s) e).num k q * (5 * Z + 6 * t)) ((reduced (axial_cut s) e).den k q * (5 * Z))

-- the excess at which the test reads κ
abbrev pub tested_excess : Order → Cylinder → ℕ
tested_excess o s = tested_at o s - 1000

-- L and U with the axial stress over the gain of an added part of t
abbrev pub gained_by : Cylinder → Fraction → Fraction → Fraction → ℕ → Pair
gained_by s x y z t = sum_bounds (extra x) s ((x.num * (5 * Z)) // (x.den * (5 * Z + 6 * t))) y z

abbrev pub gained_of : Cylinder → ByStress Load → ℕ → Pair
gained_of s l t = gained_by s (fraction_of l.axial) (fraction_of l.ring) (fraction_of l.shear) t

-- what the pressure does
unfoldable pub gain_of : Order → Cylinder → ℕ → Gain
unfolding grid place place38
gain_of o s p =
    let e : ℕ = tested_excess o s in
    let q : ℕ = grid (axial_cut s) in
    let k : ℕ = place (axial_cut s) q in
    let j : ℕ = place38 s p in
    pick (acting s p)
    (pick (kept_at s p e k q (added_above k q j)) (Applies (added_above k q j)) (pick (kept_at s p e (k + 1) q (added_below k q j)) (Unclear (added_above k q j)) Broken))
    Idle

-- so that a stress over the gain is a small fraction
abbrev pub Little : Gain → Type 0
Little Idle = Unit {0}
Little Broken = Unit {0}
Little (Applies t) = t ≤ 4200000000
Little (Unclear t) = t ≤ 4200000000

-- what is worked of a cylinder and a pressure, with the places of S that are wanted
pub record WorkedFor (o : Order) (s : Cylinder) (p : ℕ) (A R H : Type 0) (w : Worked) : Type 0 where
  pub gain : w.gain ≡ gain_of o s p
  pub little : Little w.gain
  pub spots : SpotsFor s A R H w.spots

abbrev pub WorkedWanted : Order → Cylinder → ℕ → ByStress Bool → Worked → Type 0
WorkedWanted o s p b w = WorkedFor o s p (b.axial ≡ true) (b.ring ≡ true) (b.shear ≡ true) w

abbrev pub WorkedLoaded : Order → Cylinder → ℕ → ByStress Load → Worked → Type 0
WorkedLoaded o s p l w = WorkedFor o s p (0 < l.axial.num) (0 < l.ring.num) (0 < l.shear.num) w

-- L and U by it
abbrev pub bounds_by : Gain → Cylinder → Fraction → Fraction → Fraction → Pair
bounds_by Idle s x y z = sum_bounds 0 s x y z
bounds_by Broken s x y z = sum_bounds 0 s x y z
bounds_by (Applies t) s x y z = gained_by s x y z t
bounds_by (Unclear t) s x y z = record { low = (gained_by s x y z t).low; high = (sum_bounds 0 s x y z).high }

-- L and U under three stresses, by a reading of the test
abbrev pub line_of : Order → Cylinder → ℕ → ByStress Load → Pair
line_of o s p l = line_bounds s p (tested_at o s) (fraction_of l.axial) (fraction_of l.ring) (fraction_of l.shear)

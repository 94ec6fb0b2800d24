-- SCOPE 2, 10.6 to 10.11, 10.13, 10.16, 20, 22 and 25: the limits of a record, and its checks in their order.
use Rattle.std.specs.Prelude.{ℕ, ◌*◌, ◌-◌, Bool, true, ◌&&◌, ◌||◌, List, [], ◌∷◌, Option, None, Some, leb, ltb, eqb}
use Rattle.algebra.specs.Choice.{pick}
use Rattle.answer.specs.declared.Refusal.{Refusal}
use Rattle.answer.specs.Checks.{Check, check}
use Rattle.record.specs.declared.Wall.{Wall}
use Rattle.record.specs.declared.Ring.{Ring}
use Rattle.record.specs.declared.Ring.TheVariants.{Stress, Wind}
use Rattle.record.specs.declared.Group.{Group}
use Rattle.record.specs.declared.Record.{Record}
use Rattle.cylinder.specs.declared.Cylinder.{Cylinder}

-- x is from low to high
abbrev pub from_to : ℕ → ℕ → ℕ → Bool
from_to low high x = leb low x && leb x high

-- ---- check 6: r, t, l, E, fy or a stress outside its range

-- r 100 to 50,000; t 100 to 10,000; l 10 to 200,000
abbrev pub radius_in_range : Wall → Bool
radius_in_range w = from_to 100 50000 w.radius

abbrev pub thickness_in_range : Wall → Bool
thickness_in_range w = from_to 100 10000 w.thickness

abbrev pub length_in_range : Wall → Bool
length_in_range w = from_to 10 200000 w.length

abbrev pub dimensions : Wall → Bool
dimensions w = radius_in_range w && (thickness_in_range w && length_in_range w)

-- E 60,000 to 220,000; fy 100 to 700
abbrev pub material : Wall → Bool
material w = from_to 60000 220000 w.modulus && from_to 100 700 w.yield_stress

-- σx, σφ, τ 0 to 700,000; wind has a check of its own, 13, and never makes a larger σφ (`ring_most`, proofs/Wind.antt)
abbrev pub ring_in_range : Ring → Bool
ring_in_range (Stress σφ) = leb σφ 700000
ring_in_range (Wind w v) = true

abbrev pub stresses : Group → Bool
stresses g = leb g.axial 700000 && (ring_in_range g.ring && leb g.shear 700000)

abbrev pub in_range : Record → Bool
in_range c = dimensions c.wall && (material c.wall && stresses c.group)

-- ---- check 7: edges not 11, 12, 22
abbrev pub edges_known : Wall → Bool
edges_known w = eqb w.edges 11 || (eqb w.edges 12 || eqb w.edges 22)

-- ---- check 11: d over 50
abbrev pub shortfall_allowed : Wall → Bool
shortfall_allowed w = leb w.shortfall 50

-- ---- the effective wall in 200ths of a mm, element 306: t − d/2 where t is below 500, (24), else t. A wall that passes checks 6 and 11 is thicker than its
-- shortfall, so the difference never stops at 0.
abbrev pub shortfall_counts : Wall → Bool
shortfall_counts w = ltb w.thickness 500

abbrev pub effective_wall : Wall → ℕ
effective_wall w = pick (shortfall_counts w) (2 * w.thickness - w.shortfall) (2 * w.thickness)

-- ---- check 8: r, in 200ths of a mm too, is from 20 to 2,500 times a thickness; for a wall that is the effective one
abbrev pub ratio_by : ℕ → Wall → Bool
ratio_by thick w = from_to (20 * thick) (2500 * thick) (200 * w.radius)

abbrev pub wall_ratio : Wall → Bool
wall_ratio w = ratio_by (effective_wall w) w

-- ---- check 9: r ≤ 20 l and l ≤ 50 r
abbrev pub length_ratio : Wall → Bool
length_ratio w = leb w.radius (20 * w.length) && leb w.length (50 * w.radius)

-- ---- check 10: a over 2,000
abbrev pub tolerated : Wall → Bool
tolerated w = leb w.imperfection 2000

-- ---- check 13: w over 10,000, or v not 0 or 1
abbrev pub wind_allowed : Ring → Bool
wind_allowed (Stress σφ) = true
wind_allowed (Wind w v) = leb w 10000 && leb v 1

-- ---- the pressure inside the shell: a missing group is a pressure of 0
abbrev pub pressure_of : Option ℕ → ℕ
pressure_of None = 0
pressure_of (Some p) = p

-- ---- check 16: p over 1,000,000
abbrev pub pressure_allowed : Option ℕ → Bool
pressure_allowed i = leb (pressure_of i) 1000000

-- ---- the checks of a record, in their order. Each check is written out, and so are those of Unpressed and Nominal, which leave one out: the three lists stand
-- side by side, to be read beside docs/SCOPE.md.
abbrev pub checks : Record → List Check
checks c =
    check Refusal.Range (in_range c)
    ∷ check Refusal.Edges (edges_known c.wall)
    ∷ check Refusal.Shortfall (shortfall_allowed c.wall)
    ∷ check Refusal.WallRatio (wall_ratio c.wall)
    ∷ check Refusal.LengthRatio (length_ratio c.wall)
    ∷ check Refusal.Imperfection (tolerated c.wall)
    ∷ check Refusal.Wind (wind_allowed c.group.ring)
    ∷ check Refusal.Pressure (pressure_allowed c.inner)
    ∷ []

-- ---- a shell and a stress group, without internal pressure
abbrev pub unpressed : Wall → Group → Record
unpressed w g = record { wall = w; group = g; inner = None }

-- ---- the parts of a record in the order of the calls from C, without internal pressure
abbrev pub record_of : ℕ → ℕ → ℕ → ℕ → ℕ → ℕ → ℕ → ℕ → Ring → ℕ → ℕ → Record
record_of r t l E fy edges a σx ring τ d =
    record {
      wall =
          record {
            radius = r;
            thickness = t;
            length = l;
            modulus = E;
            yield_stress = fy;
            edges = edges;
            imperfection = a;
            shortfall = d;
          };
      group = record { axial = σx; ring = ring; shear = τ };
      inner = None;
    }

-- ---- the cylinder of a wall, with a thickness in 200ths of a mm; for a wall that is the effective one
abbrev pub cylinder_by : ℕ → Wall → Cylinder
cylinder_by thick w =
    record {
      radius = w.radius;
      wall = thick;
      length = w.length;
      modulus = w.modulus;
      yield_stress = w.yield_stress;
      edges = w.edges;
      imperfection = w.imperfection;
    }

abbrev pub cylinder_of : Wall → Cylinder
cylinder_of w = cylinder_by (effective_wall w) w

-- ---- a record with another shortfall
abbrev pub with_shortfall : ℕ → Record → Record
with_shortfall d c =
    record {
      wall =
          record {
            radius = c.wall.radius;
            thickness = c.wall.thickness;
            length = c.wall.length;
            modulus = c.wall.modulus;
            yield_stress = c.wall.yield_stress;
            edges = c.wall.edges;
            imperfection = c.wall.imperfection;
            shortfall = d;
          };
      group = c.group;
      inner = c.inner;
    }

-- ---- a record with another pressure inside
abbrev pub with_inner : Option ℕ → Record → Record
with_inner i c = record { wall = c.wall; group = c.group; inner = i }

-- What the search asks of a shell: the limits of SCOPE 2, as a shell has them.
-- Nobody has to believe this: `cylinder_within` (record's proofs/Checks.antt) has it of every record that breaks no check.
use Rattle.std.specs.Prelude.{◌*◌, ◌≤◌}
use Rattle.cylinder.specs.declared.Cylinder.{Cylinder}

-- The wall is the effective one: by SCOPE 2.2, 20.1 and 20.3 it is 150 at least.
pub record InLimits (s : Cylinder) : Type 0 where
  pub radius_least : 100 ≤ s.radius
  pub radius_most : s.radius ≤ 50000
  pub wall_least : 150 ≤ s.wall
  pub wall_most : s.wall ≤ 20000
  pub length_least : 10 ≤ s.length
  pub length_most : s.length ≤ 200000
  pub modulus_least : 60000 ≤ s.modulus
  pub modulus_most : s.modulus ≤ 220000
  pub yield_least : 100 ≤ s.yield_stress
  pub yield_most : s.yield_stress ≤ 700
  pub imperfection_most : s.imperfection ≤ 2000
  -- 20 t ≤ 100 r ≤ 2500 t
  pub not_thick : 10 * s.wall ≤ 100 * s.radius
  pub not_thin : 100 * s.radius ≤ 1250 * s.wall
  pub not_short : s.radius ≤ 20 * s.length
  pub not_long : s.length ≤ 50 * s.radius

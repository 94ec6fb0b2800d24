-- What the bounds of a comparison's terms stand for: the numbers of the slenderness's tests, the point of the grid left out.
-- Nobody has to believe this: only contracts between crates speak of it.
use Rattle.std.specs.Prelude.{Bool, true, false, ℕ, ◌+◌, ◌*◌, ◌^◌}
use Rattle.cylinder.specs.declared.Cylinder.{Cylinder}
use Rattle.cylinder.specs.declared.Stress.{Stress}
use Rattle.cylinder.specs.declared.Stress.TheVariants.{Axial, Ring, Shear}
use Rattle.cylinder.specs.WholeIdeal.{eta, ring_edges}
use Rattle.interval.specs.Around.{Around}
use Rattle.slenderness_terms.specs.declared.Terms.{Terms}

-- c encloses x, and d encloses y
pub record TwoTerms (x y : ℕ) (t : Terms) : Type 0 where
  pub for_c : Around t.c x
  pub for_d : Around t.d y

-- and e encloses z
pub record ThreeTerms (x y z : ℕ) (t : Terms) : Type 0 where
  pub for_c : Around t.c x
  pub for_d : Around t.d y
  pub for_e : Around t.e z

abbrev pub axial_short_x : Cylinder → ℕ
axial_short_x s = 121 * s.modulus * s.wall * (400 * s.length ^ 2 + 3 * s.radius * s.wall)

abbrev pub axial_short_y : Cylinder → ℕ
axial_short_y s = 16000000 * s.radius * s.length ^ 2 * s.yield_stress

-- axial stress, long, where Cx falls with the length
abbrev pub bent_c : Cylinder → ℕ
bent_c s = (10 * eta s.edges + 2) * s.radius * (121 * s.modulus * s.wall)

abbrev pub bent_d : Cylinder → ℕ
bent_d s = 400000 * eta s.edges * s.radius ^ 2 * s.yield_stress

abbrev pub bent_e : Cylinder → ℕ
bent_e s = 4 * s.length * (121 * s.modulus * s.wall)

abbrev pub ring_short_x : Cylinder → ℕ
ring_short_x s = (23 * ring_edges s.edges * s.modulus * s.wall) ^ 2 * s.wall

abbrev pub ring_short_y : Cylinder → ℕ
ring_short_y s = (20000 * s.length * s.yield_stress) ^ 2 * (200 * s.radius)

abbrev pub ring_long_x : Cylinder → ℕ
ring_long_x s = s.modulus * (44 * s.wall ^ 2 * s.length ^ 4 + 50750 * ring_edges s.edges ^ 4 * s.radius ^ 6)

abbrev pub ring_long_y : Cylinder → ℕ
ring_long_y s = 6400000 * s.radius ^ 2 * s.length ^ 4 * s.yield_stress

-- shear, short
abbrev pub shear_c : Cylinder → ℕ
shear_c s = 1134 * s.modulus ^ 2 * s.wall ^ 4 * s.radius

abbrev pub shear_d : Cylinder → ℕ
shear_d s = 25600000000 * s.length ^ 4 * s.radius * s.yield_stress ^ 2

abbrev pub shear_e : Cylinder → ℕ
shear_e s = 1080000 * s.modulus ^ 2 * s.length ^ 3 * s.wall ^ 2

abbrev pub shear_long_x : Cylinder → ℕ
shear_long_x s = 3 * s.modulus ^ 2 * s.wall ^ 3

abbrev pub shear_long_y : Cylinder → ℕ
shear_long_y s = 128000000 * s.radius ^ 3 * s.yield_stress ^ 2

-- of a stress, for a short cylinder or a long one
abbrev pub TermsFor : Stress → Bool → Cylinder → Terms → Type 0
TermsFor Axial true s t = TwoTerms (axial_short_x s) (axial_short_y s) t
TermsFor Axial false s t = ThreeTerms (bent_c s) (bent_d s) (bent_e s) t
TermsFor Ring true s t = TwoTerms (ring_short_x s) (ring_short_y s) t
TermsFor Ring false s t = TwoTerms (ring_long_x s) (ring_long_y s) t
TermsFor Shear true s t = ThreeTerms (shear_c s) (shear_d s) (shear_e s) t
TermsFor Shear false s t = TwoTerms (shear_long_x s) (shear_long_y s) t

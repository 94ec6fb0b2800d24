-- What the bounds of the two branches whose ideal stress is a sum with a root stand for, at the grid q.
-- Nobody has to believe this: only contracts between crates speak of it.
use Rattle.std.specs.Prelude.{ℕ, ◌*◌, ◌^◌}
use Rattle.cylinder.specs.declared.Cylinder.{Cylinder}
use Rattle.slenderness_terms.specs.declared.Terms.{Terms}
use Rattle.slenderness_terms.specs.TermsFor.{ThreeTerms, bent_c, bent_d, bent_e, shear_c, shear_d, shear_e}

-- shear, short
abbrev pub Sheared : Cylinder → ℕ → Terms → Type 0
Sheared s q t = ThreeTerms (shear_c s) (q ^ 4 * shear_d s) (shear_e s) t

-- axial stress, long, where Cx falls with the length
abbrev pub Bent : Cylinder → ℕ → Terms → Type 0
Bent s q t = ThreeTerms (bent_c s) (q ^ 2 * bent_d s) (bent_e s) t

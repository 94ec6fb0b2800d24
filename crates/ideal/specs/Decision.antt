-- Which number the related slenderness is.
-- Nobody has to believe this: only contracts between crates speak of it.
use Rattle.std.specs.Prelude.{Bool}
use Rattle.cylinder.specs.declared.Cylinder.{Cylinder}
use Rattle.algebra.specs.Choice.{pick}
use Rattle.cylinder.specs.Cut.{Cut}
use Rattle.cylinder.specs.WholeIdeal.{axial_short_cut, axial_long_cut, ring_short_cut, ring_long_cut, shear_short_cut, shear_long_cut}
use Rattle.cylinder.specs.declared.Stress.{Stress}
use Rattle.cylinder.specs.declared.Stress.TheVariants.{Axial, Ring, Shear}
use Rattle.lengths.specs.declared.Branch.{Branch}

-- the related slenderness for a stress, on its short branch or not
abbrev pub cut_of : Stress → Bool → Cylinder → Cut
cut_of Axial short s = pick short (axial_short_cut s) (axial_long_cut s)
cut_of Ring short s = pick short (ring_short_cut s) (ring_long_cut s)
cut_of Shear short s = pick short (shear_short_cut s) (shear_long_cut s)

-- the same for a branch
abbrev pub cut_at : Branch → Cut
cut_at b = cut_of b.kind b.short b.shell.cylinder

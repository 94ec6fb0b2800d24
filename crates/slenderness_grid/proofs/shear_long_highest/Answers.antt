-- `slenderness_grid::shear_long_highest` meets its contract. Assumes nothing.
use mathlib.Core.Path.{ap₂, ◌∙◌}
use Rattle.std.proofs.Common.{rules}
use native.Mathlib.Nat.{mul_comm}
use Rattle.roots.specs.Largest.{largest}
use Prim.Native.Nat.{◌^◌}
use Rattle.ideal.proofs.Rows.{shear_long_right}
use Rattle.slenderness_grid.proofs.Rows.{shear_long_x_lem, shear_long_row}
use Rattle.slenderness_grid.proofs.shear_long_highest.Goals as goal

pub returns : goal.returns
returns c =
    let s = c.args.s in
    let g = c.args.g in
    shear_long_row s g.q g.cap g.small.2
    (c.root_highest.ensures _ _ c.requires
    (λ k h. search rules ∙ ap₂ (largest 4 g.cap) (shear_long_x_lem s.modulus s.wall) (shear_long_right s.radius s.yield_stress g.q ∙ mul_comm _ (g.q ^ 4))))

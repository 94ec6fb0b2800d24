-- `slenderness_grid::axial_short_highest` meets its contract. Assumes nothing.
use mathlib.Core.Path.{ap₂, ◌∙◌}
use Rattle.std.proofs.Common.{rules}
use native.Mathlib.Nat.{mul_comm}
use Rattle.roots.specs.Largest.{largest}
use Prim.Native.Nat.{◌^◌}
use Rattle.axial_long.proofs.Row.{with_squares}
use Rattle.slenderness_grid.proofs.Rows.{axial_short_x_lem, axial_short_row}
use Rattle.slenderness_grid.proofs.axial_short_highest.Goals as goal

pub returns : goal.returns
returns c =
    let s = c.args.s in
    let g = c.args.g in
    axial_short_row s g.q g.cap g.small.2
    (c.root_highest.ensures _ _ c.requires
    (λ k h. search rules ∙ ap₂ (largest 2 g.cap) (axial_short_x_lem s.modulus s.wall s.radius s.length) (with_squares 16000000 s.radius s.length s.yield_stress g.q ∙ mul_comm _ (g.q ^ 2))))

-- `slenderness_grid::ring_short_highest` meets its contract. Assumes nothing.
use mathlib.Core.Path.{ap₂, ◌∙◌}
use Rattle.std.proofs.Common.{rules}
use Rattle.roots.specs.Largest.{largest}
use Prim.Native.Nat.{◌*◌}
use Rattle.ideal.proofs.Rows.{ring_short_right}
use Rattle.slenderness_grid.proofs.Rows.{ring_short_x_lem, ring_point, ring_short_row}
use Rattle.slenderness_grid.proofs.ring_short_highest.Goals as goal

pub returns : goal.returns
returns c =
    let s = c.args.s in
    let g = c.args.g in
    ring_short_row s g.q g.cap g.small.2
    (c.root_highest.ensures _ _ c.requires
    (λ k h. search rules ∙ ap₂ (largest 4 g.cap) (ring_short_x_lem c.ring_edges-c.result s.modulus s.wall ∙ rw c.ring_edges-c.ensures.0) (ring_short_right s.radius s.length s.yield_stress g.q ∙ ring_point (20000 * s.length * s.yield_stress) g.q _)))

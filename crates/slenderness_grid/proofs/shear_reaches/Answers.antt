-- `slenderness_grid::shear_reaches` meets its contract. Assumes nothing.
use mathlib.Core.Path.{◌∙◌}
use Rattle.std.proofs.Common.{rules}
use Rattle.slenderness_grid.proofs.Seen.{seen_or, shear_seen}
use Rattle.slenderness_grid.proofs.shear_reaches.Goals as goal

pub returns : goal.returns
returns c =
    let a = c.args in
    let k = c.requires.1 in
    let n = c.times-m.ensures _ _ c.of-x.ensures c.of-x.ensures in
    let rest = c.minus-b.ensures _ _ k.for_d (c.times.ensures _ _ k.for_c n) in
    c.is_le.ensures
    ∙ seen_or _ _ _ _ (c.parted_roots.ensures _ _ (c.times-a.ensures _ _ k.for_e n) rest) c.unwrap_or_else.ensures (λ h. search rules)
    (λ e. (shear_seen a.s.cylinder a.p a.q e).reaches)

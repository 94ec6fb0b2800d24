-- `slenderness_grid::bent_reaches` meets its contract. Assumes nothing.
use mathlib.Core.Path.{◌∙◌}
use Rattle.std.proofs.Common.{rules}
use Rattle.slenderness_grid.proofs.Seen.{seen_or, bent_seen}
use Rattle.slenderness_grid.proofs.bent_reaches.Goals as goal

pub returns : goal.returns
returns c =
    let a = c.args in
    let k = c.requires.1 in
    let rest = c.minus-a.ensures _ _ (c.times.ensures _ _ k.for_c c.of-m.ensures) k.for_d in
    c.is_le.ensures
    ∙ seen_or _ _ _ _ (c.parted_roots.ensures _ _ rest (c.times-b.ensures _ _ k.for_e c.of-m.ensures)) c.unwrap_or_else.ensures (λ h. search rules)
    (λ e. bent_seen a.s.cylinder a.p a.q _ e)

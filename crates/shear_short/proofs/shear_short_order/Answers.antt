-- `shear_short::shear_short_order` meets its contract. Assumes nothing.
use Rattle.std.proofs.Common.{◌∙◌}
use Rattle.shear_short.proofs.Row.{shear_d, shear_c, shear_e, shear_short_row}
use Rattle.shear_short.proofs.shear_short_order.Goals as goal

pub returns : goal.returns
returns c =
    let a = c.args in
    let s = a.shell.cylinder in
    shear_short_row s a.p a.q (c.product_of-d.ensures.is ∙ shear_d s.radius s.length s.yield_stress a.q) (c.product_of.ensures.is ∙ shear_c s.modulus s.wall s.radius a.p)
    c.subtract.ensures.is (c.product_of-t.ensures.is ∙ shear_e s.modulus s.wall s.length a.p) c.compare_roots.ensures

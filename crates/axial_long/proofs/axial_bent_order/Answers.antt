-- `axial_long::axial_bent_order` meets its contract. Assumes nothing.
use Rattle.std.proofs.Common.{sym, ◌∙◌}
use Rattle.axial_long.proofs.Row.{bent_c, with_squares, bent_e, axial_bent_row, axial_bent_low}
use Rattle.axial_long.proofs.axial_bent_order.Goals as goal

pub returns-then-at_most : goal.returns-then-at_most
returns-then-at_most c =
    let a = c.args in
    let s = a.shell.cylinder in
    let h = c.eta-h.ensures.0 in
    axial_bent_row s a.p a.q (c.product_of-a.ensures.is ∙ bent_c s.modulus s.wall s.radius _ a.p ∙ rw h) (c.product_of-b.ensures.is ∙ with_squares 400000 _ s.radius s.yield_stress a.q ∙ rw h)
    (sym c.at_most.ensures ∙ c.if-at_most.true) c.subtract.ensures.is (c.product_of-e.ensures.is ∙ bent_e s.modulus s.wall s.length a.p) c.compare_roots.ensures

pub returns-else-at_most : goal.returns-else-at_most
returns-else-at_most c =
    let a = c.args in
    let s = a.shell.cylinder in
    let h = c.eta-h.ensures.0 in
    axial_bent_low s a.p a.q (c.product_of-a.ensures.is ∙ bent_c s.modulus s.wall s.radius _ a.p ∙ rw h) (c.product_of-b.ensures.is ∙ with_squares 400000 _ s.radius s.yield_stress a.q ∙ rw h)
    (sym c.at_most.ensures ∙ c.if-at_most.false)

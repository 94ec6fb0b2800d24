-- `wind::ring_stress` meets its contract. Assumes nothing.
use mathlib.Core.Path.{◌∙◌}
use native.Mathlib.Omega.{arith}
use Rattle.std.proofs.Common.{rules, eq-eqb}
use Rattle.algebra.proofs.Tests.{clash}
use Rattle.wind.proofs.Search.{lo_fits, by_the_cap, by_the_root, by_either, by_the_next}
use Rattle.wind.proofs.ring_stress.Goals as goal
use Rattle.wind.proofs.ring_stress.Goals.{then-lo-hi, else-lo-hi}

pub returns-then-top-lo : goal.returns-then-top-lo
returns-then-top-lo c =
    let a = c.args in
    let f =
    by_the_cap a.shell a.gust a.vented c.from-v.result c.root_part-root.result c.div_ceil-top.result c.div_ceil-lo.result c.requires c.from-v.ensures
    c.root_part-root.ensures (search rules) (search rules) (omega arith) in
    record { value = omega arith; upper_bound = omega arith }

pub overflow_mul-lo : goal.overflow_mul-lo
overflow_mul-lo c =
    let a = c.args in
    let f =
    lo_fits a.shell a.gust a.vented c.from-v.result c.root_part-root.result c.div_ceil-top.result c.div_ceil-lo.result c.requires c.from-v.ensures
    c.root_part-root.ensures (search rules) (search rules) in
    omega arith

pub returns-then-root_at_most : goal.returns-then-root_at_most
returns-then-root_at_most c =
    let a = c.args in
    elim c.if-lo-hi.branch [
      | then-lo-hi w ↦
          let f =
          by_either a.shell a.gust a.vented c.from-v.result c.root_part-root.result c.div_ceil-top.result c.div_ceil-lo.result c.requires c.from-v.ensures
          c.root_part-root.ensures (search rules) (search rules) c.div_ceil-hi.result (search rules) (omega arith) (omega arith) in
          record { value = omega arith; upper_bound = omega arith }
      | else-lo-hi w ↦
          let f =
          by_the_root a.shell a.gust a.vented c.from-v.result c.root_part-root.result c.div_ceil-top.result c.div_ceil-lo.result c.requires c.from-v.ensures
          c.root_part-root.ensures (search rules) (search rules) (omega arith) (cc w.root_at_most.ensures) in
          record { value = omega arith; upper_bound = omega arith }
    ]

pub returns-else-root_at_most : goal.returns-else-root_at_most
returns-else-root_at_most c =
    let a = c.args in
    elim c.if-lo-hi.branch [
      | then-lo-hi w ↦ absurd (clash (w.value-is ∙ eq-eqb _ _ w.if-lo-hi.true) c.if-root_at_most.false)
      | else-lo-hi w ↦
          let f =
          by_the_next a.shell a.gust a.vented c.from-v.result c.root_part-root.result c.div_ceil-top.result c.div_ceil-lo.result c.requires c.from-v.ensures
          c.root_part-root.ensures (search rules) (search rules) c.div_ceil-hi.result (search rules) (omega arith)
          w.if-lo-hi.false (cc w.root_at_most.ensures) in
          record { value = omega arith; upper_bound = omega arith }
    ]

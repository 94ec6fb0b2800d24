-- `millionths::settled` meets its contract. Assumes nothing.
use mathlib.Core.Path.{refl, sym, ap, ◌∙◌}
use Prim.Native.Nat.{◌*◌}
use native.Mathlib.Omega.{arith}
use Rattle.std.proofs.Common.{rules}
use Rattle.std.proofs.lemmas.Option.{IfSome_then}
use Rattle.algebra.proofs.Powers.{pow_two}
use Rattle.interval.proofs.Bounds.{around_as}
use Rattle.millionths.specs.declared.Power.{Power}
use Rattle.millionths.specs.Reached.{reached_by}
use Rattle.millionths.proofs.Largest.{thrice}
use Rattle.millionths.proofs.settled.Goals as goal

pub returns-in-FiveQuarters : goal.returns-in-FiveQuarters
returns-in-FiveQuarters c = IfSome_then c.found.result c.found.ensures (λ r says n m x y.
    let k = c.of-t.ensures in
    says _ _ (c.fifth-x5.ensures n x) (around_as _ (omega arith) (c.times-y5.ensures _ _ (c.fifth.ensures m y) (c.times.ensures _ _ k k)))
    ∙ ap (λ (p : Power). reached_by p n m) (sym c.in-FiveQuarters.is))

pub returns-in-ThreeSquares : goal.returns-in-ThreeSquares
returns-in-ThreeSquares c = IfSome_then c.found-in-ThreeSquares.result c.found-in-ThreeSquares.ensures (λ r says n m x y.
    says _ _ (around_as _ (sym (pow_two n)) (c.times-x2.ensures n n x x)) (around_as _ (thrice refl (sym (pow_two m))) (c.times-y2.ensures (m * m) 3000000 (c.times-in-ThreeSquares.ensures m m y y) (search rules)))
    ∙ ap (λ (p : Power). reached_by p n m) (sym c.in-ThreeSquares.is))

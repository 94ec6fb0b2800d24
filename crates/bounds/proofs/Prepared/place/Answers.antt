-- `bounds::Prepared::place` meets its contract. Assumes nothing.
use native.Mathlib.Omega.{arith}
use Rattle.bounds.proofs.Places.{found_near, found_far}
use Rattle.bounds.proofs.Prepared.place.Goals as goal

pub invariant_of-result : goal.invariant_of-result
invariant_of-result c =
    let p = c.args.self in
    record { own = p.own; is_place = found_near p.branch p.own _ c.highest-fine.result (omega arith) (omega arith) c.highest-fine.ensures (omega arith) }

pub invariant_of-result-2 : goal.invariant_of-result-2
invariant_of-result-2 c =
    let p = c.args.self in
    record {
      own = p.own;
      is_place = found_far p.branch p.own _ c.highest-fine.result c.highest-coarse.result (omega arith) (omega arith) c.highest-fine.ensures (omega arith) c.highest-coarse.ensures;
    }

-- `lengths::is_up_to` meets its contract. Assumes nothing.
use native.Mathlib.Nat.{mul-le-mul}
use native.Mathlib.Omega.{arith}
use Rattle.lengths.proofs.Fits.{radius_three, length_test}
use Rattle.lengths.proofs.is_up_to.Goals as goal

pub overflow_mul-result-5 : goal.overflow_mul-result-5
overflow_mul-result-5 c = omega (arith, mul-le-mul c.requires (radius_three c.args.s))

pub returns : goal.returns
returns c = let s = c.args.s.cylinder in length_test c.args.k s.length s.wall s.radius

-- `interval::shifted` meets its contract: of 64 digits none is left. Assumes nothing.
use mathlib.Core.Path.{sym}
use native.Mathlib.Nat.{lt_of_lt_of_le, div-eq_of_lt}
use native.Mathlib.Omega.{arith}
use lib.Pow.{pow_mono}
use Rattle.interval.proofs.shifted.Goals as goal

pub returns-else-s-lt64 : goal.returns-else-s-lt64
returns-else-s-lt64 c = sym (div-eq_of_lt (lt_of_lt_of_le (omega arith) (pow_mono c.if-s-lt64.false)))

use native.Mathlib.Omega.{arith}
use mathlib.Core.Path.{sym}
use Rattle.text.proofs.Laws.{decimal_one, decimal_next, puts_more, puts_digit}
use Rattle.text.proofs.Page.+number.Goals as goal
use Rattle.text.proofs.Page.+number.Goals.{then-n-ge10, else-n-ge10}

pub number-requires : goal.number-requires
number-requires t c = (omega arith, omega (arith, decimal_next c.args.n c.if-n-ge10.true))

pub put-requires : goal.put-requires
put-requires t c =
    elim c.if-n-ge10.branch [
      | then-n-ge10 w ↦ rw w.self-is (omega (arith, decimal_next c.args.n w.if-n-ge10.true))
      | else-n-ge10 w ↦ rw w.self-is (omega (arith, decimal_one c.args.n w.if-n-ge10.false))
    ]

pub returns : goal.returns
returns t c =
    elim c.if-n-ge10.branch [
      | then-n-ge10 w ↦ puts_more c.args.n w.if-n-ge10.true (rw (sym w.self-is) at w.number.ensures) c.put.ensures
      | else-n-ge10 w ↦ puts_digit c.args.n w.if-n-ge10.false (rw w.self-is at c.put.ensures)
    ]

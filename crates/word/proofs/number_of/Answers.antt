use Rattle.std.proofs.Common.{rules}
use native.Mathlib.Omega.{arith}
use mathlib.Core.Path.{sym}
use Rattle.word.proofs.Laws.{number_long, number_start, start_none, start_zero, start_one, start_more, reading_first, reading_bad, reading_turn, reading_done}
use Rattle.word.proofs.number_of.Goals as goal
use Rattle.word.proofs.number_of.Goals.{then-is_empty-via-then-is_empty, then-is_empty-via-else-is_empty+then-word-gt7, else-word-gt1-via-then-word-gt1+else-word-eq48, else-word-gt1-via-else-word-gt1}

pub returns-then-is_empty : goal.returns-then-is_empty
returns-then-is_empty c =
    elim c.then-is_empty.branch [
      | then-is_empty-via-then-is_empty w ↦ sym (number_start _ (start_none _ (search rules)))
      | then-is_empty-via-else-is_empty+then-word-gt7 w ↦ sym (number_long _ (omega arith))
    ]

pub returns-then-word-eq48 : goal.returns-then-word-eq48
returns-then-word-eq48 c = sym (number_start _ (start_zero _ c.if-word-gt1.true c.if-word-eq48.true))

pub loop-b-init : goal.loop-b-init
loop-b-init c =
    reading_first _
    (elim c.else-word-gt1.branch [
      | else-word-gt1-via-then-word-gt1+else-word-eq48 w ↦ start_more _ w.if-word-gt1.true w.if-word-eq48.false
      | else-word-gt1-via-else-word-gt1 w ↦ start_one _ (search rules) w.if-word-gt1.false
    ])

pub returns-then-not-is_ascii_digit : goal.returns-then-not-is_ascii_digit
returns-then-not-is_ascii_digit c = sym (reading_bad _ _ _ c.loop-b.invariant c.loop-b-test.true (search rules))

pub loop-b-preserved : goal.loop-b-preserved
loop-b-preserved c = rw c.from.ensures (reading_turn _ _ _ c.loop-b.invariant c.loop-b-test.true (search rules))

pub returns : goal.returns
returns c = reading_done _ _ _ c.loop-b.invariant c.loop-b-test.false (omega arith)

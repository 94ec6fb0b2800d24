-- The rows marked P hold of the definitions: L and U are computed at each record, and they are right.
use mathlib.Core.Path.{◌≡◌, refl}
use Prim.Native.Nat.{◌≤◌}
use native.Mathlib.Omega.{arith}
use lib.Dec.{lit≤}
use Rattle.cylinder.proofs.Verdict
use Rattle.pressure.specs.declared.Order.TheVariants.{PressureFirst}
use Rattle.pressure.specs.WholeGain.{line_bounds}
use Rattle.answer.specs.declared.Verdict.TheVariants.{Holds, Fails}
use Rattle.answer.specs.Checks.{AllPassed}
use Rattle.answer.specs.Answering.{refusal_by}
use Rattle.answer.proofs.Checks.{refusal_none}
use Rattle.std.specs.Prelude.{Ok}
use Rattle.record.specs.declared.Record.{Record}
use Rattle.record.specs.Limits.{pressure_of, checks}
use Rattle.record.specs.Answering.{bounds_of}
use Rattle.record.specs.Trial.{B, B2000, Row, TrialRows}
use Rattle.record.proofs.Right.{bounds_right, record_down, only_holds, only_fails}

module _ (c : Record) (plain : pressure_of c.inner ≡ 0) (passes : Ok tt ≡ refusal_by (checks c)) where
  all : AllPassed (checks c)
  all = refusal_none (checks c) passes

  holding : (bounds_of PressureFirst c).high ≤ 9998 → Row c Holds
  holding h =
      record { meant = Verdict.holds_only (bounds_right PressureFirst c all).encloses (record_down PressureFirst c) (omega arith); answered = λ a r. only_holds PressureFirst c plain all a r h }

  failing : 10003 ≤ (bounds_of PressureFirst c).low → Row c Fails
  failing h = record { meant = Verdict.fails_only (bounds_right PressureFirst c all).encloses (omega arith); answered = λ a r. only_fails PressureFirst c plain all a r h }

pub trial_rows : TrialRows
unfolding bounds_of line_bounds
trial_rows =
    record {
      axial_holds = holding (B 20700 0 0) refl refl (lit≤ tt);
      axial_fails = failing (B 21200 0 0) refl refl (lit≤ tt);
      ring_holds = holding (B 0 2200 0) refl refl (lit≤ tt);
      ring_fails = failing (B 0 2300 0) refl refl (lit≤ tt);
      shear_holds = holding (B 0 0 11500) refl refl (lit≤ tt);
      shear_fails = failing (B 0 0 11900) refl refl (lit≤ tt);
      together_holds = holding (B 10000 1000 5000) refl refl (lit≤ tt);
      together_fails = failing (B 10000 1000 6500) refl refl (lit≤ tt);
      excess_holds = holding (B2000 11100 0 0) refl refl (lit≤ tt);
      excess_fails = failing (B2000 11600 0 0) refl refl (lit≤ tt);
      unloaded_holds = holding (B 0 0 0) refl refl (lit≤ tt);
      most_shear_fails = failing (B 0 0 700000) refl refl (lit≤ tt);
    }

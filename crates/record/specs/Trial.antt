-- The rows marked P in SCOPE 15, together: for each, what the exact sum is, and that every right answer has the verdict.
use Rattle.std.specs.Prelude.{ℕ, ◌≡◌, Ok}
use Rattle.pressure.specs.declared.Order.TheVariants.{PressureFirst}
use Rattle.answer.specs.Answers.{Answer}
use Rattle.answer.specs.declared.Verdict.{Verdict}
use Rattle.answer.specs.declared.Verdict.TheVariants.{Holds, Fails}
use Rattle.answer.specs.declared.Judgement.{Judgement}
use Rattle.record.specs.declared.Ring.TheVariants.{Stress}
use Rattle.record.specs.declared.Record.{Record}
use Rattle.record.specs.Limits.{record_of}
use Rattle.record.specs.Right.{Right, MeansFor}

-- B is 5000 500 10000 210000 240 12 1000, with no shortfall
abbrev pub B : ℕ → ℕ → ℕ → Record
B σx σφ τ = record_of 5000 500 10000 210000 240 12 1000 σx (Stress σφ) τ 0

-- B with a = 2000
abbrev pub B2000 : ℕ → ℕ → ℕ → Record
B2000 σx σφ τ = record_of 5000 500 10000 210000 240 12 2000 σx (Stress σφ) τ 0

pub record Row (c : Record) (v : Verdict) : Type 0 where
  pub meant : MeansFor PressureFirst c v
  pub answered : (a : Answer) → Right PressureFirst c a → (j : Judgement) × ((a ≡ Ok j) × (j.verdict ≡ v))

pub record TrialRows : Type 0 where
  pub axial_holds : Row (B 20700 0 0) Holds
  pub axial_fails : Row (B 21200 0 0) Fails
  pub ring_holds : Row (B 0 2200 0) Holds
  pub ring_fails : Row (B 0 2300 0) Fails
  pub shear_holds : Row (B 0 0 11500) Holds
  pub shear_fails : Row (B 0 0 11900) Fails
  pub together_holds : Row (B 10000 1000 5000) Holds
  pub together_fails : Row (B 10000 1000 6500) Fails
  pub excess_holds : Row (B2000 11100 0 0) Holds
  pub excess_fails : Row (B2000 11600 0 0) Fails
  pub unloaded_holds : Row (B 0 0 0) Holds
  pub most_shear_fails : Row (B 0 0 700000) Fails

-- κ2 with its tolerance falls, and slowly: by the laws of κ2 alone in Curve2 of cylinder.
use mathlib.Core.Path.{refl}
use Prim.Native.Nat.{ℕ, ◌*◌, ◌≤◌, ◌<◌}
use native.Mathlib.Nat.{mul-pos}
use Rattle.cylinder.specs.Cut.{Cut}
use Rattle.cylinder.specs.WholeCurves.{part2, reduction2, long, tolerance_factor}
use Rattle.cylinder.proofs.Falls.{Falls, times_falls}
use Rattle.cylinder.proofs.Slow.{Slow, times_slow}
use Rattle.cylinder.proofs.Lawful.{Lawful}
use Rattle.cylinder.proofs.Placed.{Placed, far_or_finer}
use Rattle.cylinder.proofs.Branches.{tolerance_falls, tolerance_den, tolerance_slow}
use Rattle.cylinder.proofs.Curve2.{reduction_falls, reduction_den, reduction_slow}
use Rattle.pressure.specs.WholeGain.{reduced}

pub reduced_falls : (s : Cut) (e : ℕ) → Falls (reduced s e)
reduced_falls s e = times_falls (reduction2 (part2 s)) (tolerance_factor (long s) e) (reduction_falls (part2 s)) (tolerance_falls (long s) e)

pub reduced_den : (s : Cut) (e p q : ℕ) → 0 < q → 0 < p → 0 < (reduced s e).den p q
reduced_den s e p q pos some = mul-pos (reduction_den (s.within 25 100) (s.within 1 1) (s.within 15 10) p q pos (λ _. some)) (tolerance_den (long s) e p q pos)

module _ (s : Cut) (law : Lawful s) (k q v : ℕ) (at : Placed s k q v) where
  pub reduced_slow : (e : ℕ) → e ≤ 1000 → Slow (5000000 * 100000000) (5000001 * 100000001) (reduced s e) k q
  reduced_slow e small =
      times_slow 5000000 5000001 100000000 100000001 (reduction2 (part2 s)) (tolerance_factor (long s) e) k q
      (reduction_slow s law k q v at (s.within 25 100) (s.within 1 1) (s.within 15 10) refl refl (far_or_finer s law k q v at))
      (tolerance_slow s law k q v at (long s) e small refl)

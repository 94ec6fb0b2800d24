-- SCOPE 25.2, 25.3, 25.11 and 27.1: what is said of the gain of a cylinder with internal pressure, by either reading of its test.
use Rattle.std.specs.Prelude.{ℕ}
use Rattle.cylinder.specs.declared.Cylinder.{Cylinder}
use Rattle.pressure.specs.declared.Order.{Order}
use Rattle.pressure.specs.Gain.{Acts}
use Rattle.pressure.specs.GainTest as test
use Rattle.line_bounds.specs.declared.Gain.{Gain}
use Rattle.line_bounds.specs.declared.Gain.TheVariants.{Idle, Broken, Applies, Unclear}

abbrev pub GainMeans : Order → Cylinder → ℕ → Gain → Type 0
GainMeans o s p Idle = ¬ (Acts s p)
GainMeans o s p Broken = Acts s p × test.Broken s p (test.test_ratio o s)
GainMeans o s p (Applies _) = Acts s p × ¬ (test.Broken s p (test.test_ratio o s))
GainMeans o s p (Unclear _) = test.Doubt s p (test.test_ratio o s)

-- The factors that the code multiplies, the sizes of its numbers, and how it rounds. Assumes nothing.
use mathlib.Core.Path.{◌≡◌, refl}
use mathlib.Core.List.{[], ◌∷◌}
use Prim.Native.Nat.{ℕ, ◌*◌, ◌^◌, ◌≤◌, ◌<◌}
use native.Mathlib.Nat.{mul-le-mul}
use Rattle.std.specs.Int.{div_ceil}
use Rattle.std.proofs.lemmas.Grind.{div_ceil_times}
use Rattle.algebra.proofs.Ring.{ring, quoted}
use Rattle.factors.specs.Product.{prod}
use Rattle.cylinder.specs.declared.Cylinder.{Cylinder}
use Rattle.cylinder.specs.InLimits.{InLimits}
use Rattle.wind.specs.WholeWind.{RoundedUp}

-- ---- the factors

pub above_factors : (c r w : ℕ) → prod (279841 ∷ c ∷ c ∷ r ∷ r ∷ r ∷ r ∷ r ∷ r ∷ r ∷ w ∷ w ∷ w ∷ w ∷ []) ≡ 279841 * c ^ 2 * r ^ 7 * w ^ 4
above_factors c r w = ring (c ∷ r ∷ w ∷ []) (search quoted depth 60 fits 100000) refl

pub part_factors : (l W : ℕ) → prod (3276800 ∷ l ∷ l ∷ W ∷ []) ≡ 4096 * (800 * l ^ 2 * W)
part_factors l W = ring (l ∷ W ∷ []) (search quoted depth 60 fits 100000) refl

pub within_factors : (l W d : ℕ) → prod (800 ∷ l ∷ l ∷ W ∷ d ∷ d ∷ d ∷ d ∷ []) ≡ 800 * l ^ 2 * W * d ^ 4
within_factors l W d = ring (l ∷ W ∷ d ∷ []) (search quoted depth 60 fits 100000) refl

-- ---- the sizes

pub load_most : (s : Cylinder) (w : ℕ) → InLimits s → w ≤ 10000 → s.radius * w ≤ 500000000
load_most s w ok gust = mul-le-mul ok.radius_most gust

-- ---- rounding up

pub rounded_up : {n d m : ℕ} → 0 < d → m ≡ div_ceil n d → RoundedUp n d m
rounded_up {n} {d} pos is = rw is (div_ceil_times n d pos)

-- Products in other words. Assumes nothing.
use mathlib.Core.Path.{◌≡◌, refl}
use mathlib.Core.List.{[], ◌∷◌}
use Prim.Native.Nat.{ℕ, ◌*◌, ◌^◌}
use Rattle.algebra.proofs.Ring.{ring, quoted}

pub cube : (c q : ℕ) → c * q * (q * q) ≡ c * q ^ 3
cube c q = ring (c ∷ q ∷ []) (search quoted depth 60 fits 100000) refl

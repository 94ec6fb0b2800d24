-- The text of values that stand one after the other.
use Rattle.std.specs.Prelude.{ℕ, List, [], ◌∷◌, ◌++◌}

-- S holds of each
abbrev pub Each : {A : Type 0} → (A → Type 0) → List A → Type 0
Each S [] = Unit {0}
Each S (a ∷ l) = S a × Each S l

-- the bytes of each
abbrev pub each : {A : Type 0} → (A → List ℕ) → List A → List ℕ
each w [] = []
each w (a ∷ l) = w a ++ each w l

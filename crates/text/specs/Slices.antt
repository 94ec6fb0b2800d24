-- What code does with a slice of bytes: stores one after the other, and cuts at a byte. Nobody has to believe this: the laws say
-- what is written and what is cut off in terms of Bytes.
use Rattle.std.specs.Prelude.{ℕ, ◌+◌, Bool, List, [], ◌∷◌, set}
use Rattle.algebra.specs.Choice.{pick}

-- `out` with the bytes stored one after the other from the index `at`
unfoldable pub put : List ℕ → ℕ → List ℕ → List ℕ
put out at [] = out
put out at (b ∷ bs) = put (set out at b) (at + 1) bs

-- the bytes before the first one that passes the test, and those after it
unfoldable pub up_to : (ℕ → Bool) → List ℕ → List ℕ
up_to p [] = []
up_to p (b ∷ s) = pick (p b) [] (b ∷ up_to p s)

unfoldable pub after : (ℕ → Bool) → List ℕ → List ℕ
after p [] = []
after p (b ∷ s) = pick (p b) s (after p s)

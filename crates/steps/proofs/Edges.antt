-- What a search finds, of a test whose answer is known. Assumes nothing.
-- Call: `edge_of f (λ p b k. search rules) nought c.largest.ensures`, with `k` that a call of the closure at p may answer b, and `nought : f 0 ≡ true`.
use mathlib.Core.Path.{◌≡◌, sym}
use mathlib.Core.Bool.{Bool, true, false}
use Prim.Native.Nat.{ℕ, ◌+◌, ◌<◌, ◌≤◌}
use native.Mathlib.Decide.{dec_lt}
use native.Mathlib.Omega.{arith}
use Rattle.steps.specs.Steps.{EdgeUpTo}

-- where the test answers f, the number that is found passes f, and the next number does not
pub edge_of : {says : ℕ → Bool → Type 0} {cap r : ℕ} (f : ℕ → Bool) → ((p : ℕ) (b : Bool) → says p b → b ≡ f p) → f 0 ≡ true → EdgeUpTo says cap r →
    (r ≤ cap) × (f r ≡ true) × (r < cap → f (r + 1) ≡ false)
edge_of {r = r} f tells nought edge = (edge.most, elim (dec_lt 0 r) [ yes h ↦ sym (tells r true (edge.passes h)) | no h ↦ let z : 0 ≡ r = omega arith in rw z at nought ], λ h. sym (tells (r + 1) false (edge.fails h)))

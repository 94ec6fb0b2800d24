-- `nl`, `nl_eq`, `nl_no`: an order, an equation or a contradiction between polynomials over ℕ from facts of the same kind.
--
--     nl 8 (a ∷ b ∷ []) (h & k & e &≡ done) (search jobs depth 60 fits 100000) refl          at a ≤ or a <; h and k are ≤ or <, and e is an equation
--     nl_eq 8 (a ∷ b ∷ []) (e &≡ done) (search jobs depth 60 fits 100000) refl refl          at an equation
--     nl_no 8 (a ∷ b ∷ []) (h & k & done) (search jobs depth 60 fits 100000) refl            at ⊥
--
-- Each fact may be used several times, times monomials that the search finds; the number is how many uses may stand in a row (and 32 times that, tries in all).
-- The unknowns are listed as for `ring` (Ring.antt), those of the facts too.
-- Facts worth adding: `cross h k` and `squares x y` of Ring.antt; `add-sub_of_le h` for a - b; `mul-div-le n d` and `lt-mul-div-succ n h` for n / d.
-- The multipliers are whole: where fractions are needed, scale the goal first, `cancel_le 3 (omega arith) (nl ..)`, or `cancel-lt k (nl ..)` at a <.
-- Refusals:
-- - "no proof of Job ..": an unknown is missing in the list, or a bound was met (Ring.antt).
-- - the `refl`: no certificate was found. Put 0 for the 8 and `?` for the `refl`, and run `rt dev NAME --allow-holes`: the goal names the monomials in the way
--   (Ring.antt says how to read it). For each, the lower side of some fact has to have a term that divides it.
use mathlib.Core.Path.{◌≡◌, sym, subst₂}
use mathlib.Core.List.{List, [], ◌∷◌}
use Prim.Native.Nat.{ℕ, zero, suc, ◌≤◌, zero-le}
use native.Mathlib.Nat.{le_antisymm, not-suc-le-zero}
use lib.ListN.{length}
use Rattle.algebra.specs.Polynomial.{ev, add, below}
use Rattle.algebra.specs.Quotation.{normal, passes, excess}
use Rattle.algebra.specs.Certificate.{Pair, Facts, Quotes, q_done, q_more, job, turn, Side, lower, upper, sides, fact, Step, step, lows, highs, find}
use Rattle.algebra.proofs.Polynomial.{below_by, add_fact}
use Rattle.algebra.proofs.Ring.{ev_normal, passed}
-- what `search` is handed, how facts are listed, and what refusals are written in
pub use Rattle.algebra.specs.Certificate.{jobs, done, ◌&◌, ◌&≡◌, Job, runs}

fact_le : {ρ : List ℕ} {ps : List Pair} (q : Quotes ρ ps) → Facts ps → (i : ℕ) → ev (lower (fact (sides q) i)) ρ ≤ ev (upper (fact (sides q) i)) ρ
fact_le q_done h i = zero-le
fact_le (q_more p q qs) (h & hs) zero = subst₂ ◌≤◌ (sym (ev_normal p)) (sym (ev_normal q)) h
fact_le (q_more p q qs) (h & hs) (suc i) = fact_le qs hs i

module _ (ρ : List ℕ) (fs : List Side) (facts : (i : ℕ) → ev (lower (fact fs i)) ρ ≤ ev (upper (fact fs i)) ρ) where
  lows_le_highs : (ss : List Step) → ev (lows ss fs) ρ ≤ ev (highs ss fs) ρ
  lows_le_highs [] = zero-le
  lows_le_highs (step i m ∷ ss) = add_fact (lows ss fs) (highs ss fs) m (lower (fact fs i)) (upper (fact fs i)) ρ (lows_le_highs ss) (facts i)

-- an order from facts
pub nl : (k : ℕ) {m n : ℕ} (ρ : List ℕ) {ps : List Pair} → Facts ps → (j : Job ρ ps m n) → runs k j ≡ passes → m ≤ n
nl k ρ hs (job qs p q) t =
    let fs = sides qs in
    let l = normal p in
    let r = normal q in
    let ss = find k (length ρ) fs l r in
    let u = add l (highs ss fs) in
    let v = add r (lows ss fs) in
    subst₂ ◌≤◌ (ev_normal p) (ev_normal q)
    (below_by l r (lows ss fs) (highs ss fs) ρ (passed (below u v) (excess u v) t) (lows_le_highs ρ fs (fact_le qs hs) ss))

-- an equation from facts, tested both ways
pub nl_eq : (k : ℕ) {m n : ℕ} (ρ : List ℕ) {ps : List Pair} → Facts ps → (j : Job ρ ps m n) → runs k j ≡ passes → runs k (turn j) ≡ passes → m ≡ n
nl_eq k ρ hs j t u = le_antisymm (nl k ρ hs j t) (nl k ρ hs (turn j) u)

-- facts that contradict one another
pub nl_no : (k : ℕ) (ρ : List ℕ) {ps : List Pair} → Facts ps → (j : Job ρ ps 1 0) → runs k j ≡ passes → ⊥
nl_no k ρ hs j t = not-suc-le-zero {n = 0} (nl k ρ hs j t)

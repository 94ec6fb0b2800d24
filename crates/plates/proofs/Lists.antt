-- Laws of lists of plates: a list that rises, plate by plate; and a list without a plate that passes a test. Assumes nothing.
use mathlib.Core.Path.{◌≡◌, refl, sym, subst}
use mathlib.Core.Bool.{Bool, true, false, not}
use mathlib.Core.List.{List, [], ◌∷◌}
use Prim.Native.Nat.{ℕ, zero, suc, ◌<◌}
use native.Mathlib.Numerals.{add-one}
use native.Mathlib.Omega.{arith}
use lib.Dec.{ltb}
use lib.ListN.{length, get_or}
use borrow.Author.Tests.{ltb-false, not-true}
use Rattle.std.specs.Prelude.{None, Some, position}
use Rattle.std.specs.List.{IsAllAdjacentAnswer, position_or_len}
use Rattle.std.proofs.lemmas.List.Sums.{prefix_len_passes}
use Rattle.algebra.proofs.Tests.{missed_right}
use Rattle.plates.specs.Plates.{rising}

rising_all : (ps : List ℕ) → ((k : ℕ) → suc k < length ps → ltb (get_or ps k 0) (get_or ps (suc k) 0) ≡ true) → rising ps ≡ true
rising_all [] h = refl
rising_all (t ∷ []) h = refl
rising_all (t ∷ (u ∷ us)) h = rw (h 0 (omega arith)) (rising_all (u ∷ us) (λ k lt. h (suc k) (omega arith)))

rising_not : (ps : List ℕ) (k : ℕ) → suc k < length ps → ltb (get_or ps k 0) (get_or ps (suc k) 0) ≡ false → rising ps ≡ false
rising_not [] k h e = absurd (omega arith)
rising_not (t ∷ []) k h e = absurd (omega arith)
rising_not (t ∷ (u ∷ us)) zero h e = rw e refl
rising_not (t ∷ (u ∷ us)) (suc k) h e = missed_right (ltb t u) (rising (u ∷ us)) (rising_not (u ∷ us) k (omega arith) e)

-- what is said of neighbours is said of the list
pub rising_adjacent : (ps : List ℕ) (r : Bool) → IsAllAdjacentAnswer (λ x y b. b ≡ ltb x y) ps r → r ≡ rising ps
rising_adjacent ps true h = sym (rising_all ps (λ k lt. sym (subst (λ (n : ℕ). true ≡ ltb (get_or ps k 0) (get_or ps n 0)) (add-one k) (h k 0 (omega arith)))))
rising_adjacent ps false (k, lt, h) = sym (rising_not ps k (omega arith) (sym (subst (λ (n : ℕ). false ≡ ltb (get_or ps k 0) (get_or ps n 0)) (add-one k) (h 0))))

-- where no place is found, no element passes
pub position_none : (p : ℕ → Bool) (ps : List ℕ) → position p ps ≡ None → (j : ℕ) → j < length ps → p (get_or ps j 0) ≡ false
position_none p ps e j h = go (ltb (position_or_len p ps) (length ps)) refl
  where
    go : (b : Bool) → ltb (position_or_len p ps) (length ps) ≡ b → p (get_or ps j 0) ≡ false
    go true t = let some : Some (position_or_len p ps) ≡ None = rw t at e in cc
    go false t = not-true _ (prefix_len_passes (λ x. not (p x)) ps j 0 (omega (arith, ltb-false (position_or_len p ps) (length ps) t)))

-- Load cases as numbers, five for each: the fives of a list. Assumes nothing.
use mathlib.Core.Path.{◌≡◌, refl, sym, ap, ◌∙◌}
use mathlib.Core.List.{List, [], ◌∷◌, ◌++◌}
use Prim.Native.Nat.{ℕ, zero, suc, ◌+◌, ◌*◌, ◌<◌}
use native.Mathlib.Numerals.{add-one}
use native.Mathlib.Omega.{arith}
use lib.Dec.{lit<}
use lib.ListN.{get_or, drop}
use Rattle.std.specs.Simd.{first_chunks}
use Rattle.std.proofs.lemmas.List.{get_or-take, get_or-drop}
use Rattle.record.specs.declared.Group.{Group}
use Rattle.cases.specs.Numbers.{ring_from, group_from, first_from}

-- number j of the five at place i
at : (ns : List ℕ) (k i j m : ℕ) → i < k → j < 5 → m ≡ 5 * i + j → get_or (get_or (first_chunks 5 k ns) i []) j 0 ≡ get_or ns m 0
at ns zero i j m there small place = absurd (omega arith)
at ns (suc k) zero j m there small place = let same : j ≡ m = omega arith in get_or-take 5 ns j 0 small ∙ ap (λ o. get_or ns o 0) same
at ns (suc k) (suc i) j m there small place =
    let same : 5 + (5 * i + j) ≡ m = omega arith in
    at (drop 5 ns) k i j (5 * i + j) (omega arith) small (omega arith) ∙ get_or-drop 5 ns (5 * i + j) 0 ∙ ap (λ o. get_or ns o 0) same

-- one more load case is read of the next five
pub read_more : (ns : List ℕ) (k i : ℕ) (fives : List (List ℕ)) → fives ≡ first_chunks 5 k ns → i < k → (g : Group) → g ≡ group_from (get_or fives i []) 0 →
    (gs more : List Group) → gs ≡ first_from ns i → more ≡ gs ++ (g ∷ []) → more ≡ first_from ns (i + 1)
read_more ns k i fives are there g is gs more so_far next =
    next ∙ (λ n. so_far n ++ ((is ∙ ap (λ (l : List (List ℕ)). group_from (get_or l i []) 0) are ∙ same) n ∷ [])) ∙ ap (first_from ns) (sym (add-one i))
  where
    same : group_from (get_or (first_chunks 5 k ns) i []) 0 ≡ group_from ns i
    same = λ n.
        record {
          axial = at ns k i 0 (5 * i) there (lit< tt) (omega arith) n;
          ring = ring_from (at ns k i 1 (5 * i + 1) there (lit< tt) refl n) (at ns k i 2 (5 * i + 2) there (lit< tt) refl n) (at ns k i 3 (5 * i + 3) there (lit< tt) refl n);
          shear = at ns k i 4 (5 * i + 4) there (lit< tt) refl n;
        }

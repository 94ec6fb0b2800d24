-- Halving finds the edge of a test, and a test that is downward closed has no other.
-- Call: `bisect_edge f n lo hi lt near pass fail`, with `near : hi ≤ lo + 2 ^ n`, `pass : f lo ≡ true`, `fail : f hi ≡ false`; at numerals `lit≤ tt` and `refl`.
-- The result's fields are `.passes` and `.fails`. `bisect` is shut: where it has to compute, say `unfolding bisect`. A refusal names the argument that is wrong.
use mathlib.Core.Path.{◌≡◌, refl, sym, ap, subst, ◌∙◌}
use mathlib.Core.Bool.{Bool, true, false, true≢false}
use Prim.Native.Nat.{ℕ, zero, suc, ◌+◌, ◌/◌, ◌^◌, ◌≤◌, ◌<◌}
use native.Mathlib.Nat.{pow-zero, le_antisymm}
use native.Mathlib.Omega.{arith}
use Rattle.algebra.specs.Bisection.{bisect, Edge, Downward}

none_left : (f : ℕ → Bool) (lo hi : ℕ) → bisect f zero lo hi ≡ lo
unfolding bisect
none_left f lo hi = refl

upper_half : (f : ℕ → Bool) (n lo hi : ℕ) → f ((lo + hi) / 2) ≡ true → bisect f (suc n) lo hi ≡ bisect f n ((lo + hi) / 2) hi
unfolding bisect
upper_half f n lo hi e = rw (e, bisect)

lower_half : (f : ℕ → Bool) (n lo hi : ℕ) → f ((lo + hi) / 2) ≡ false → bisect f (suc n) lo hi ≡ bisect f n lo ((lo + hi) / 2)
unfolding bisect
lower_half f n lo hi e = rw (e, bisect)

-- halving ends at an edge, whatever the test
pub bisect_edge : (f : ℕ → Bool) (n lo hi : ℕ) → lo < hi → hi ≤ lo + 2 ^ n → f lo ≡ true → f hi ≡ false → Edge f (bisect f n lo hi)
bisect_edge f zero lo hi lt near pass fail = rw none_left (record { passes = pass; fails = subst (λ (x : ℕ). f x ≡ false) one fail })
  where
    one : hi ≡ lo + 1
    one = omega (arith, pow-zero 2)
bisect_edge f (suc n) lo hi lt near pass fail = go (f m) refl (bisect_edge f n m hi) (bisect_edge f n lo m)
  where
    m : ℕ
    m = (lo + hi) / 2

    go : (b : Bool) → f m ≡ b → (m < hi → hi ≤ m + 2 ^ n → f m ≡ true → f hi ≡ false → Edge f (bisect f n m hi))
        → (lo < m → m ≤ lo + 2 ^ n → f lo ≡ true → f m ≡ false → Edge f (bisect f n lo m)) → Edge f (bisect f (suc n) lo hi)
    go true q up down = rw (upper_half f n lo hi q) (up (omega arith) (omega arith) q fail)
    go false q up down = rw (lower_half f n lo hi q) (down apart (omega arith) pass q)
      where
        moved : lo ≡ m → ⊥
        moved same = true≢false (sym pass ∙ ap f same ∙ q)

        apart : lo < m
        apart = omega (arith, moved)

module _ (f : ℕ → Bool) (down : Downward f) where
  -- a downward closed test has one edge at most
  pub edge_unique : (r r' : ℕ) → Edge f r → Edge f r' → r ≡ r'
  edge_unique r r' e e' = le_antisymm (no_more r r' e e') (no_more r' r e' e)
    where
      no_more : (r r' : ℕ) → Edge f r → Edge f r' → r ≤ r'
      no_more r r' e e' = let n : ¬ (r' + 1 ≤ r) = λ le. true≢false (sym (down (r' + 1) r le e.passes) ∙ e'.fails) in omega arith

  -- so what halving finds is the one edge that there is
  pub bisect_only : (n lo hi : ℕ) → lo < hi → hi ≤ lo + 2 ^ n → f lo ≡ true → f hi ≡ false → (r : ℕ) → Edge f r → r ≡ bisect f n lo hi
  bisect_only n lo hi lt near pass fail r e = edge_unique r (bisect f n lo hi) e (bisect_edge f n lo hi lt near pass fail)

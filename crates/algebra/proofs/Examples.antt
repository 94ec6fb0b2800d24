-- How the tools of this crate are used, in the order to try them: omega, ring, le, nl, poly; then powers, fractions and bisection.
-- The check proves every example, so each is a call that works. What a refusal means is said at the top of the file that has the tool.
use mathlib.Core.Path.{◌≡◌, refl}
use mathlib.Core.List.{List, [], ◌∷◌}
use mathlib.Core.Bool.{Bool}
use Prim.Native.Nat.{ℕ, suc, ◌+◌, ◌*◌, ◌-◌, ◌/◌, ◌^◌, ◌≤◌, ◌<◌, zero-le}
use native.Mathlib.Nat.{le_trans, mul-le-mul, mul-div-le, add-sub_of_le, one-le-pow}
use native.Mathlib.Numerals.{bound}
use native.Mathlib.Omega.{arith}
use lib.Dec.{leb, lit≤}
use lib.ListN.{length}
use borrow.Author.Tests.{leb-true, le-leb, lt-leb}
use Rattle.algebra.specs.Bisection.{bisect, Edge, Downward}
use Rattle.algebra.proofs.Polynomial.{poly, #◌, ◌⊕◌, ◌⊗◌, ◌↑◌, ◌≗◌, ◌≼◌, ◌≺◌, ◌⊑◌, ◌⊏◌, ◌⊑◌by◌, ◌≔◌, ◌⟹◌}
use Rattle.algebra.proofs.Ring.{ring, le, quoted, by_le, by_eq, squares, gap, cancel-lt}
use Rattle.algebra.proofs.Nonlinear.{nl, nl_eq, nl_no, jobs, ◌&◌, ◌&≡◌, done}
use Rattle.algebra.proofs.Powers.{pow_two, pow_three, pow_four, cross_pow}
use Rattle.algebra.proofs.Fractions.{carry}
use Rattle.algebra.proofs.Bisection.{bisect_edge, bisect_only}

-- ---- no tool needed: omega, grw

-- omega multiplies out: where a formula is written with factors it is the cheapest
factors : (c E t p : ℕ) → (23 * c * E * t * p * p) * (23 * c * E * t * p * p) * t ≡ 529 * c * c * E * E * t * t * t * p * p * p * p
factors c E t p = omega arith

-- powers are unknowns to omega, until they are products
factors_of_powers : (c E t p : ℕ) → (23 * c * E * t * p ^ 2) ^ 2 * t ≡ 529 * c ^ 2 * E ^ 2 * t ^ 3 * p ^ 4
factors_of_powers c E t p = simp (pow_two, pow_three, pow_four) (omega arith)

-- each factor by a larger one
larger_factors : (a b c d e f x : ℕ) → a ≤ b → c ≤ d → e ≤ f → a * c * e * x ≤ x * f * d * b
larger_factors a b c d e f x h k l = grw (bound, h, k, l) (omega arith)

-- facts that are multiplied already
quotients : (n m d e : ℕ) → (n / d) * (m / e) * (d * e) ≤ n * m
quotients n m d e = omega (arith, mul-le-mul (mul-div-le n d) (mul-div-le m e))

-- ---- ring

-- powers are read as they are
powers : (c E t p : ℕ) → (23 * c * E * t * p ^ 2) ^ 2 * t ≡ 529 * c ^ 2 * E ^ 2 * t ^ 3 * p ^ 4
powers c E t p = ring (c ∷ E ∷ t ∷ p ∷ []) (search quoted depth 60 fits 100000) refl

-- 12 unknowns, degree 16
twelve : (r t l E f p q c d m k n : ℕ) → (p ^ 2 * r * t * E * c + q ^ 2 * l * f * d * m) ^ 2 * (k * n) ^ 2
    ≡ p ^ 4 * r ^ 2 * t ^ 2 * E ^ 2 * c ^ 2 * k ^ 2 * n ^ 2 + 2 * p ^ 2 * q ^ 2 * (r * t * E * c * l * f * d * m) * (k ^ 2 * n ^ 2)
    + q ^ 4 * l ^ 2 * f ^ 2 * d ^ 2 * m ^ 2 * k ^ 2 * n ^ 2
twelve r t l E f p q c d m k n = ring (r ∷ t ∷ l ∷ E ∷ f ∷ p ∷ q ∷ c ∷ d ∷ m ∷ k ∷ n ∷ []) (search quoted depth 60 fits 100000) refl

-- any term can be an unknown, and numerals of any size are read
any_term : (xs : List ℕ) (k : ℕ) → (length xs + 2 ^ k) * 2 ^ 100 * suc (length xs) ≡ 2 ^ 100 * (length xs ^ 2 + length xs * 2 ^ k + length xs + 2 ^ k)
any_term xs k = ring (length xs ∷ 2 ^ k ∷ []) (search quoted depth 60 fits 100000) refl

-- a difference is an unknown, and what it is, a fact
difference : (a b c : ℕ) → b ≤ a → (a - b) * (a + b) * c + b ^ 2 * c ≡ a ^ 2 * c
difference a b c h = by_eq ((a + b) * c) (add-sub_of_le h) (ring (a ∷ b ∷ c ∷ (a - b) ∷ []) (search quoted depth 60 fits 100000) refl)

-- ---- le

-- no coefficient is larger
smaller : (a b n : ℕ) → (a + b) ^ 2 ≤ n → a ^ 2 + b ^ 2 ≤ n
smaller a b n h = le_trans (le (a ∷ b ∷ []) (search quoted depth 60 fits 100000) refl) h

-- a fact, times a multiplier of your own
larger_square : (q p x : ℕ) → q ≤ p → q ^ 2 * x ≤ p ^ 2 * x
larger_square q p x h = by_le ((q + p) * x) h (le (q ∷ p ∷ x ∷ []) (search quoted depth 60 fits 100000) refl)

-- a number as another and what is between
by_gap : (q p x : ℕ) → q < p → 0 < x → q ^ 2 * x < p ^ 2 * x
by_gap q p x h k =
    let (d, e) = gap h in
    let (y, f) = gap k in
    rw (← e, ← f) (le (q ∷ d ∷ y ∷ []) (search quoted depth 60 fits 100000) refl)

-- ---- nl

-- the multiplier is found
found_square : (q p x : ℕ) → q ≤ p → q ^ 2 * x ≤ p ^ 2 * x
found_square q p x h = nl 8 (q ∷ p ∷ x ∷ []) (h & done) (search jobs depth 60 fits 100000) refl

-- 12 unknowns, degree 16, three facts used seven times
twelve_facts : (r t l E f p q c d m k n : ℕ) → r * t ≤ E * f → p ^ 2 * c ≤ q ^ 2 * d → l * m < k * n
    → (r * t) ^ 2 * (p ^ 2 * c) ^ 2 * (l * m) ^ 3 ≤ (E * f) ^ 2 * (q ^ 2 * d) ^ 2 * (k * n) ^ 3
twelve_facts r t l E f p q c d m k n h i j =
    nl 8 (r ∷ t ∷ l ∷ E ∷ f ∷ p ∷ q ∷ c ∷ d ∷ m ∷ k ∷ n ∷ []) (h & i & j & done) (search jobs depth 60 fits 100000) refl

-- bounds by numerals: a product fits its type
product_fits : (a b c : ℕ) → a < 2 ^ 16 → b < 2 ^ 16 → c < 2 ^ 16 → a * b * c < 2 ^ 64
product_fits a b c h k l = nl 20 (a ∷ b ∷ c ∷ []) (h & k & l & done) (search jobs depth 60 fits 100000) refl

-- facts brought along: what squares give
mean : (a b c : ℕ) → (a + b + c) ^ 2 ≤ 3 * (a ^ 2 + b ^ 2 + c ^ 2)
mean a b c = nl 20 (a ∷ b ∷ c ∷ []) (squares a b & squares b c & squares a c & done) (search jobs depth 60 fits 100000) refl

-- the goal is scaled first: from squares to their roots
root : (a b : ℕ) → a ^ 2 < b ^ 2 → a < b
root a b h = cancel-lt (a + b) (nl 8 (a ∷ b ∷ []) (h & done) (search jobs depth 60 fits 100000) refl)

-- an equation from equations
equations : (a b c d x : ℕ) → a * b ≡ c → c * x ≡ d ^ 2 → x * b * a * a ≡ d * a * d
equations a b c d x e f = nl_eq 8 (a ∷ b ∷ c ∷ d ∷ x ∷ []) (e &≡ f &≡ done) (search jobs depth 60 fits 100000) refl refl

-- facts that contradict one another
contradiction : (a b c : ℕ) → a ≤ b → b * c < a * c → ⊥
contradiction a b c h k = nl_no 8 (a ∷ b ∷ c ∷ []) (h & k & done) (search jobs depth 60 fits 100000) refl

-- ---- poly: the tree by hand

-- the goal of `twelve`
twelve_by_hand : (r t l E f p q c d m k n : ℕ) → (p ^ 2 * r * t * E * c + q ^ 2 * l * f * d * m) ^ 2 * (k * n) ^ 2
    ≡ p ^ 4 * r ^ 2 * t ^ 2 * E ^ 2 * c ^ 2 * k ^ 2 * n ^ 2 + 2 * p ^ 2 * q ^ 2 * (r * t * E * c * l * f * d * m) * (k ^ 2 * n ^ 2)
    + q ^ 4 * l ^ 2 * f ^ 2 * d ^ 2 * m ^ 2 * k ^ 2 * n ^ 2
twelve_by_hand =
    poly 12
    (λ r t l E f p q c d m k n.
    (p ↑ 2 ⊗ r ⊗ t ⊗ E ⊗ c ⊕ q ↑ 2 ⊗ l ⊗ f ⊗ d ⊗ m) ↑ 2 ⊗ (k ⊗ n) ↑ 2
    ≗ p ↑ 4 ⊗ r ↑ 2 ⊗ t ↑ 2 ⊗ E ↑ 2 ⊗ c ↑ 2 ⊗ k ↑ 2 ⊗ n ↑ 2 ⊕ # 2 ⊗ p ↑ 2 ⊗ q ↑ 2 ⊗ (r ⊗ t ⊗ E ⊗ c ⊗ l ⊗ f ⊗ d ⊗ m) ⊗ (k ↑ 2 ⊗ n ↑ 2)
    ⊕ q ↑ 4 ⊗ l ↑ 2 ⊗ f ↑ 2 ⊗ d ↑ 2 ⊗ m ↑ 2 ⊗ k ↑ 2 ⊗ n ↑ 2)
    tt

-- facts: p is q + 1 + d, and x is 1 + y
strict : (q p x : ℕ) → q < p → 1 ≤ x → q * q * x < p * p * x
strict = poly 3 (λ q p x. q ⊏ p ⟹ # 1 ⊑ x ⟹ q ⊗ q ⊗ x ≺ p ⊗ p ⊗ x) tt

-- a fact between products, times a multiplier; and an equation
multiplied : (a b c d p : ℕ) → p ≡ c + d → a * b ≤ c * d → a * b * p + c ≤ c * d * c + d * c * d + c
multiplied = poly 5 (λ a b c d p. p ≔ c ⊕ d ⟹ a ⊗ b ⊑ c ⊗ d by p ⟹ a ⊗ b ⊗ p ⊕ c ≼ c ⊗ d ⊗ c ⊕ d ⊗ c ⊗ d ⊕ c) tt

-- ---- powers and fractions

-- for p'/q' ≤ p/q: a bound on the square of p/q holds of the square of p'/q'
carried : (A B p q p' q' : ℕ) → 0 < q → p' * q ≤ p * q' → A * p ^ 2 ≤ B * q ^ 2 → A * p' ^ 2 ≤ B * q' ^ 2
carried A B p q p' q' pos le h = carry A B (p ^ 2) (q ^ 2) (p' ^ 2) (q' ^ 2) (one-le-pow 2 q pos) (cross_pow p q p' q' 2 le) h

-- ---- bisection

abbrev below_root : ℕ → Bool
below_root r = leb (r ^ 2) 2000

-- the whole square root of 2000, computed
computed : bisect below_root 11 0 2001 ≡ 44
unfolding bisect
computed = refl

-- the same, recognised by its squares, with no halving computed
recognised : 44 ≡ bisect below_root 11 0 2001
recognised = bisect_only below_root down 11 0 2001 (lit≤ tt) (lit≤ tt) refl refl 44 (record { passes = refl; fails = refl })
  where
    down : Downward below_root
    down a b h e = le-leb (a ^ 2) 2000 (le_trans (nl 8 (a ∷ b ∷ []) (h & done) (search jobs depth 60 fits 100000) refl) (leb-true (b ^ 2) 2000 e))

-- the root of any number of 64 bits: what halving finds passes, and one more does not
root_of : (n : ℕ) → n < 2 ^ 64 → Edge (λ (r : ℕ). leb (r ^ 2) n) (bisect (λ (r : ℕ). leb (r ^ 2) n) 32 0 (2 ^ 32))
root_of n h = bisect_edge (λ (r : ℕ). leb (r ^ 2) n) 32 0 (2 ^ 32) (lit≤ tt) (lit≤ tt) (le-leb 0 n zero-le) (lt-leb (2 ^ 64) n h)

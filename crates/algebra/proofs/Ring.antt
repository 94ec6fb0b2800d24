-- `ring` and `le`: an equation, or an order, between two polynomials over ℕ as they stand in the goal, by a computed test.
--
--     ring (a ∷ b ∷ []) (search quoted depth 60 fits 100000) refl      at an equation
--     le (a ∷ b ∷ []) (search quoted depth 60 fits 100000) refl        at a ≤ or a <, if each coefficient is at most the other side's
--
-- The list holds the unknowns, in any order: variables, and each term that is to count as one (`length xs`, `2 ^ k`, `a - b`, `n / d`, `c.args.n`).
-- `+`, `*`, `suc`, numerals of any size and `e ^ numeral` are read. Try `omega arith` first: it multiplies out too, up to 64 atoms, and no `a ^ 2`.
-- Facts: `by_le m h (le ..)` and `by_eq m h (ring ..)` use m times a fact h; `nl` of Nonlinear.antt finds the multipliers itself.
-- Refusals:
-- - "no proof of Both ..": an unknown of the goal is missing in the list. If it says that `depth` or `fits` was met, give a larger one.
-- - "broke off": the goal is too large to be read (more than some 30 monomials of degree 16 on each side). Write the tree: `poly` of Polynomial.antt.
-- - the `refl`: put `?` for it and run `rt dev NAME --allow-holes`. The goal, at ⊢, reads `fails (mono L R (e₀ ∷ e₁ ∷ ..) ∷ ..) ≡ passes`: the monomials in
--   the way, each with its coefficient on the left and on the right, and the unknowns' exponents in the list's order (zeros at the end mean nothing).
use mathlib.Core.Path.{◌≡◌, refl, sym, ◌∙◌, ap, ap₂, subst₂}
use mathlib.Core.List.{List, ◌++◌}
use mathlib.Core.Bool.{Bool, true, false, ◌&&◌}
use Prim.Native.Nat.{ℕ, suc, ◌+◌, ◌*◌, ◌^◌, ◌≤◌, ◌<◌}
use native.Mathlib.Nat.{le_antisymm, mul-le-mul_left, add-sub_of_le, le_of_mul-le-mul_left}
use native.Mathlib.Omega.{arith, sub_cases}
use lib.Dec.{T}
use lib.ListN.{get_or, length}
use lib.Ieee.Fits.{and_l, and_r}
use Rattle.algebra.specs.Polynomial.{val, ev, below, unknowns}
use Rattle.algebra.specs.Quotation.{At, first, second, third, fourth, later, Quote, q_add, q_mul, q_suc, q_pow, q_var, q_lit, both, place, tree, normal, Mono, verdict, excess, flip}
use Rattle.algebra.proofs.Polynomial.{norm_val, evs_unknowns, below_ev}
-- what `search` is handed, and what refusals are written in
pub use Rattle.algebra.specs.Quotation.{quoted, Both, same, at_most_lem, passes, fails, mono}
-- in the kit, under other names: `let (d, e) = gap h in rw (← e) ..` puts a + d for b, by h : a ≤ b; `cancel-lt k` takes the factor k off a <
pub use native.Mathlib.Nat.{le_dest as gap, lt_of_mul-lt-mul_left as cancel-lt}

get_or_place : {ρ : List ℕ} {n : ℕ} (p : At ρ n) → get_or ρ (place p) 0 ≡ n
get_or_place first = refl
get_or_place second = refl
get_or_place third = refl
get_or_place fourth = refl
get_or_place (later p) = get_or_place p

val_tree : {ρ : List ℕ} {n : ℕ} (q : Quote ρ n) → val (tree q) ρ ≡ n
val_tree (q_add p q) = ap₂ ◌+◌ (val_tree p) (val_tree q)
val_tree (q_mul p q) = ap₂ ◌*◌ (val_tree p) (val_tree q)
val_tree (q_suc p) = ap suc (val_tree p)
val_tree (q_pow k e p) = ap (λ (t : ℕ). t ^ k) (val_tree p)
val_tree (q_var p) = get_or_place p
val_tree (q_lit e) = refl

-- the normal form of a quoted number is that number
pub ev_normal : {ρ : List ℕ} {n : ℕ} (q : Quote ρ n) → ev (normal q) ρ ≡ n
ev_normal {ρ} q = norm_val (tree q) (unknowns (length ρ)) ρ ρ (evs_unknowns ρ) ∙ val_tree q

-- a test whose verdict is `passes` has passed
pub passed : (b : Bool) (ds : List Mono) → verdict b ds ≡ passes → T b
passed true ds p = tt
passed false ds p = let z : ◌≡◌ {A = ℕ} 0 1 = cc in omega arith

-- an order, coefficient by coefficient
pub le : {m n : ℕ} (ρ : List ℕ) (q : Both ρ m n) → at_most_lem q ≡ passes → m ≤ n
le ρ (both p q) t =
    let a = normal p in
    let b = normal q in
    subst₂ ◌≤◌ (ev_normal p) (ev_normal q) (below_ev a b ρ (passed (below a b) (excess a b) t))

-- an equation
pub ring : {m n : ℕ} (ρ : List ℕ) (q : Both ρ m n) → same q ≡ passes → m ≡ n
ring ρ (both p q) t =
    let a = normal p in
    let b = normal q in
    let ok = passed (below a b && below b a) (excess a b ++ flip (excess b a)) t in
    sym (ev_normal p) ∙ le_antisymm (below_ev a b ρ (and_l (below a b) (below b a) ok)) (below_ev b a ρ (and_r (below a b) (below b a) ok)) ∙ ev_normal q

-- ---- facts brought in, so that what is left needs none

-- m times a fact, at an order
pub by_le : {a b x y : ℕ} (m : ℕ) → a ≤ b → x + m * b ≤ y + m * a → x ≤ y
by_le m h k = omega (arith, mul-le-mul_left m h)

-- m times an equation, at an equation
pub by_eq : {a b x y : ℕ} (m : ℕ) → a ≡ b → x + m * b ≡ y + m * a → x ≡ y
by_eq m h k = omega (arith, ap (λ (t : ℕ). m * t) h)

-- (b - a) * (d - c) is not negative
pub cross : {a b c d : ℕ} → a ≤ b → c ≤ d → a * d + b * c ≤ a * c + b * d
cross {a} {b} {c} {d} h k = subst₂ (λ (u v : ℕ). a * v + u * c ≤ a * c + u * v) (add-sub_of_le h) (add-sub_of_le k) (omega arith)

-- (x - y)² is not negative
pub squares : (x y : ℕ) → 2 * (x * y) ≤ x * x + y * y
squares x y = sub_cases x y (2 * (x * y) ≤ x * x + y * y) (λ h e. omega (arith, cross h h)) (λ h e. omega (arith, cross h h))

-- a positive factor taken off: the kit's `le_of_mul-le-mul_left`, with the factor written first
pub cancel_le : {x y : ℕ} (k : ℕ) → 0 < k → k * x ≤ k * y → x ≤ y
cancel_le k h g = le_of_mul-le-mul_left g h

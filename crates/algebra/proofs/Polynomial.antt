-- `poly`: equations and orders between polynomials over ℕ, by a computed test, with the tree of the statement written by hand.
--
--     square : (a b : ℕ) → (a + b) ^ 2 ≡ a ^ 2 + 2 * a * b + b ^ 2
--     square = poly 2 (λ a b. (a ⊕ b) ↑ 2 ≗ a ↑ 2 ⊕ # 2 ⊗ a ⊗ b ⊕ b ↑ 2) tt
--
-- The number is how many unknowns the λ has; `a ⊕ b`, `a ⊗ b`, `a ↑ 3`, `# 5` and `next a` stand for +, *, ^, a numeral and suc; `≗`, `≼`, `≺` for ≡, ≤, <.
-- A fact goes in front: `q ⊑ p ⟹ ..`, or `q ⊏ p ⟹ ..` for <, puts q + d for p; `p ≔ e ⟹ ..` puts e for p; `a ⊑ b by m ⟹ ..` uses m times the fact.
-- A ≤ is proved if, all multiplied out, each coefficient is at most the other side's.
-- Refusals: `tt` where ⊥ is wanted: the test fails (call `ring` or `le` of Ring.antt instead, they say at which monomial); two types that differ: the tree
-- does not say what the signature says. Ring.antt finds the tree itself; this form is for goals that are too large for that.
use mathlib.Core.Path.{◌≡◌, refl, sym, ◌∙◌, ap, ap₂, subst, subst₂}
use mathlib.Core.List.{List, [], ◌∷◌, map}
use Prim.Native.Nat.{ℕ, zero, suc, ◌+◌, ◌*◌, ◌-◌, ◌^◌, ◌≤◌, zero-le}
use native.Mathlib.Nat.{zero-add, add-zero, suc-add, add-suc, zero-mul, mul_comm, le_antisymm, add-le-add, mul-le-mul_left, pow-zero, pow-succ'}
use native.Mathlib.Omega.{arith}
use lib.Dec.{T, leb→le}
use lib.ListN.{get_or, set, length}
use lib.Ieee.Fits.{and_l, and_r}
use Rattle.algebra.specs.Polynomial.{Tree, var, #◌, next, val, Normal, con, hor, ev, raise, horner, add_con, add, scale, mul_con, mul_rest, mul, power_of, power, norm, unknowns, evs, con_below, below, Stmt, Says, instead, holds, test, Fun, apply, All}
pub use Rattle.algebra.specs.Polynomial.{#◌, next, ◌⊕◌, ◌⊗◌, ◌↑◌, ◌≗◌, ◌≼◌, ◌≺◌, ◌⊑◌, ◌⊏◌, ◌⊑◌by◌, ◌≔◌, ◌⟹◌}

-- ---- the operations on normal forms

ev_raise_nil : (p : Normal) → ev (raise p) [] ≡ ev p []
ev_raise_nil (con k) = refl
ev_raise_nil (hor a p) = refl

ev_raise : (p : Normal) (x : ℕ) (ρ : List ℕ) → ev (raise p) (x ∷ ρ) ≡ ev p ρ
ev_raise (con k) x ρ = refl
ev_raise (hor a p) x ρ = omega arith

ev_horner : (a p : Normal) (ρ : List ℕ) → ev (horner a p) ρ ≡ ev (hor a p) ρ
ev_horner a (con zero) [] = ev_raise_nil a
ev_horner a (con zero) (x ∷ ρ) = omega (arith, ev_raise a x ρ)
ev_horner a (con (suc k)) ρ = refl
ev_horner a (hor b q) ρ = refl

ev_add_con : (k : ℕ) (p : Normal) (ρ : List ℕ) → ev (add_con k p) ρ ≡ k + ev p ρ
ev_add_con k (con j) ρ = refl
ev_add_con k (hor a p) [] = ev_add_con k a []
ev_add_con k (hor a p) (x ∷ ρ) = omega (arith, ev_add_con k a ρ)

-- a sum of normal forms is the sum of the numbers
ev_add : (p q : Normal) (ρ : List ℕ) → ev (add p q) ρ ≡ ev p ρ + ev q ρ
ev_add (con k) q ρ = ev_add_con k q ρ
ev_add (hor a p) (con k) [] = omega (arith, ev_add_con k a [])
ev_add (hor a p) (con k) (x ∷ ρ) = omega (arith, ev_add_con k a ρ)
ev_add (hor a p) (hor b q) [] = ev_add a b []
ev_add (hor a p) (hor b q) (x ∷ ρ) = rw (ev_add a b ρ, ev_add p q (x ∷ ρ)) (omega arith)

ev_scale : (k : ℕ) (p : Normal) (ρ : List ℕ) → ev (scale k p) ρ ≡ k * ev p ρ
ev_scale k (con j) ρ = refl
ev_scale k (hor a p) [] = ev_scale k a []
ev_scale k (hor a p) (x ∷ ρ) = rw (ev_scale k a ρ, ev_scale k p (x ∷ ρ)) (omega arith)

ev_mul_con : (k : ℕ) (p : Normal) (ρ : List ℕ) → ev (mul_con k p) ρ ≡ k * ev p ρ
ev_mul_con zero p ρ = sym (zero-mul (ev p ρ))
ev_mul_con (suc k) p ρ = ev_scale (suc k) p ρ

module _ (f : Normal → Normal) (a : Normal) (times_a : (q : Normal) (ρ : List ℕ) → ev (f q) ρ ≡ ev a ρ * ev q ρ) where
  ev_mul_rest : (q : Normal) (x : ℕ) (ρ : List ℕ) → ev (mul_rest f a q) (x ∷ ρ) ≡ ev a ρ * ev q (x ∷ ρ)
  ev_mul_rest (con k) x ρ = ev_raise (mul_con k a) x ρ ∙ ev_mul_con k a ρ ∙ mul_comm k (ev a ρ)
  ev_mul_rest (hor b q) x ρ = ev_horner (f b) (mul_rest f a q) (x ∷ ρ) ∙ rw (times_a b ρ, ev_mul_rest q x ρ) (omega arith)

  ev_mul_rest_nil : (q : Normal) → ev (mul_rest f a q) [] ≡ ev a [] * ev q []
  ev_mul_rest_nil (con k) = ev_raise_nil (mul_con k a) ∙ ev_mul_con k a [] ∙ mul_comm k (ev a [])
  ev_mul_rest_nil (hor b q) = ev_horner (f b) (mul_rest f a q) [] ∙ times_a b []

-- a product of normal forms is the product of the numbers
ev_mul : (p q : Normal) (ρ : List ℕ) → ev (mul p q) ρ ≡ ev p ρ * ev q ρ
ev_mul (con k) q ρ = ev_mul_con k q ρ
ev_mul (hor a p) q [] =
    ev_add (mul_rest (mul a) a q) (horner (con 0) (mul p q)) []
    ∙ ap₂ ◌+◌ (ev_mul_rest_nil (mul a) a (λ r τ. ev_mul a r τ) q) (ev_horner (con 0) (mul p q) [])
    ∙ add-zero (ev a [] * ev q [])
ev_mul (hor a p) q (x ∷ ρ) =
    ev_add (mul_rest (mul a) a q) (horner (con 0) (mul p q)) (x ∷ ρ)
    ∙ ap₂ ◌+◌ (ev_mul_rest (mul a) a (λ r τ. ev_mul a r τ) q x ρ) (ev_horner (con 0) (mul p q) (x ∷ ρ))
    ∙ rw (ev_mul p q (x ∷ ρ)) (omega arith)

ev_power_of : (p : Normal) (k : ℕ) (ρ : List ℕ) → ev (power_of p k) ρ ≡ ev p ρ ^ k
ev_power_of p zero ρ = sym (pow-zero (ev p ρ))
ev_power_of p (suc k) ρ = ev_mul p (power_of p k) ρ ∙ ap (λ (t : ℕ). ev p ρ * t) (ev_power_of p k ρ) ∙ sym (pow-succ' (ev p ρ) k)

ev_power : (p : Normal) (k : ℕ) (ρ : List ℕ) → ev (power p k) ρ ≡ ev p ρ ^ k
ev_power (con j) k ρ = refl
ev_power (hor a p) k ρ = ev_power_of (hor a p) k ρ

-- ---- the normal form of a tree

ev_get_or : (σ : List Normal) (i : ℕ) (ρ : List ℕ) → ev (get_or σ i (con 0)) ρ ≡ get_or (evs σ ρ) i 0
ev_get_or [] i ρ = refl
ev_get_or (p ∷ σ) zero ρ = refl
ev_get_or (p ∷ σ) (suc i) ρ = ev_get_or σ i ρ

ev_norm : (e : Tree) (σ : List Normal) (ρ : List ℕ) → ev (norm e σ) ρ ≡ val e (evs σ ρ)
ev_norm (var i) σ ρ = ev_get_or σ i ρ
ev_norm (# k) σ ρ = refl
ev_norm (next e) σ ρ = omega (arith, ev_add_con 1 (norm e σ) ρ, ev_norm e σ ρ)
ev_norm (e ⊕ f) σ ρ = ev_add (norm e σ) (norm f σ) ρ ∙ ap₂ ◌+◌ (ev_norm e σ ρ) (ev_norm f σ ρ)
ev_norm (e ⊗ f) σ ρ = ev_mul (norm e σ) (norm f σ) ρ ∙ ap₂ ◌*◌ (ev_norm e σ ρ) (ev_norm f σ ρ)
ev_norm (e ↑ k) σ ρ = ev_power (norm e σ) k ρ ∙ ap (λ (t : ℕ). t ^ k) (ev_norm e σ ρ)

-- σ stands for the numbers ρ, if at τ it comes to them
pub norm_val : (e : Tree) (σ : List Normal) (ρ τ : List ℕ) → evs σ τ ≡ ρ → ev (norm e σ) τ ≡ val e ρ
norm_val e σ ρ τ k = ev_norm e σ τ ∙ ap (λ (l : List ℕ). val e l) k

evs_raise : (σ : List Normal) (x : ℕ) (ρ : List ℕ) → evs (map raise σ) (x ∷ ρ) ≡ evs σ ρ
evs_raise [] x ρ = refl
evs_raise (p ∷ σ) x ρ = ap₂ ◌∷◌ (ev_raise p x ρ) (evs_raise σ x ρ)

-- the unknowns stand for any numbers
pub evs_unknowns : (ρ : List ℕ) → evs (unknowns (length ρ)) ρ ≡ ρ
evs_unknowns [] = refl
evs_unknowns (x ∷ ρ) = ap₂ ◌∷◌ (omega arith) (evs_raise (unknowns (length ρ)) x ρ ∙ evs_unknowns ρ)

-- ---- coefficients compared

con_below_ev : (j : ℕ) (q : Normal) (ρ : List ℕ) → T (con_below j q) → j ≤ ev q ρ
con_below_ev j (con k) ρ t = leb→le j k t
con_below_ev j (hor b q) [] t = con_below_ev j b [] t
con_below_ev j (hor b q) (x ∷ ρ) t = omega (arith, con_below_ev j b ρ t)

-- coefficients in order are numbers in order
pub below_ev : (p q : Normal) (ρ : List ℕ) → T (below p q) → ev p ρ ≤ ev q ρ
below_ev (con j) q ρ t = con_below_ev j q ρ t
below_ev (hor a p) (con k) [] t = below_ev a (con k) [] (and_l (below a (con k)) (below p (con 0)) t)
below_ev (hor a p) (con k) (x ∷ ρ) t =
    let A = below a (con k) in
    let B = below p (con 0) in
    omega (arith, below_ev a (con k) ρ (and_l A B t), mul-le-mul_left x (below_ev p (con 0) (x ∷ ρ) (and_r A B t)))
below_ev (hor a p) (hor b q) [] t = below_ev a b [] (and_l (below a b) (below p q) t)
below_ev (hor a p) (hor b q) (x ∷ ρ) t =
    add-le-add (below_ev a b ρ (and_l (below a b) (below p q) t)) (mul-le-mul_left x (below_ev p q (x ∷ ρ) (and_r (below a b) (below p q) t)))

-- from u ≤ v, and p + v below q + u
pub below_by : (p q u v : Normal) (ρ : List ℕ) → T (below (add p v) (add q u)) → ev u ρ ≤ ev v ρ → ev p ρ ≤ ev q ρ
below_by p q u v ρ t h = omega (arith, below_ev (add p v) (add q u) ρ t, ev_add p v ρ, ev_add q u ρ)

-- m times a fact, added to what is known
pub add_fact : (u v m a b : Normal) (ρ : List ℕ) → ev u ρ ≤ ev v ρ → ev a ρ ≤ ev b ρ → ev (add u (mul m a)) ρ ≤ ev (add v (mul m b)) ρ
add_fact u v m a b ρ h g = rw (ev_add u (mul m a) ρ, ev_add v (mul m b) ρ, ev_mul m a ρ, ev_mul m b ρ) (add-le-add h (mul-le-mul_left (ev m ρ) g))

-- ---- statements

evs_set : (σ : List Normal) (i : ℕ) (p : Normal) (ρ : List ℕ) → ev p ρ ≡ get_or (evs σ ρ) i 0 → evs (set σ i p) ρ ≡ evs σ ρ
evs_set [] i p ρ h = refl
evs_set (q ∷ σ) zero p ρ h = ap (λ (n : ℕ). n ∷ evs σ ρ) h
evs_set (q ∷ σ) (suc i) p ρ h = ap (λ (l : List ℕ). ev q ρ ∷ l) (evs_set σ i p ρ h)

evs_instead : (b : Tree) (p : Normal) (σ : List Normal) (ρ : List ℕ) → ev p ρ ≡ val b (evs σ ρ) → evs (instead b p σ) ρ ≡ evs σ ρ
evs_instead (var i) p σ ρ h = evs_set σ i p ρ h
evs_instead (# k) p σ ρ h = refl
evs_instead (next e) p σ ρ h = refl
evs_instead (e ⊕ f) p σ ρ h = refl
evs_instead (e ⊗ f) p σ ρ h = refl
evs_instead (e ↑ k) p σ ρ h = refl

module _ (σ : List Normal) (ρ τ : List ℕ) (k : evs σ τ ≡ ρ) where
  ordered : (e f : Tree) (u v : Normal) → ev u τ ≤ ev v τ → T (below (add (norm e σ) v) (add (norm f σ) u)) → val e ρ ≤ val f ρ
  ordered e f u v h t = subst₂ ◌≤◌ (norm_val e σ ρ τ k) (norm_val f σ ρ τ k) (below_by (norm e σ) (norm f σ) u v τ t h)

  put_sum : (a b : Tree) → val a ρ ≤ val b ρ → evs (instead b (hor (norm a σ) (con 1)) (map raise σ)) ((val b ρ - val a ρ) ∷ τ) ≡ ρ
  put_sum a b h =
      let d = val b ρ - val a ρ in
      let e : evs (map raise σ) (d ∷ τ) ≡ ρ = evs_raise σ d τ ∙ k in
      evs_instead b (hor (norm a σ) (con 1)) (map raise σ) (d ∷ τ) (omega (arith, norm_val a σ ρ τ k) ∙ ap (λ (l : List ℕ). val b l) (sym e)) ∙ e

  put_equal : (a b : Tree) → val b ρ ≡ val a ρ → evs (instead b (norm a σ) σ) τ ≡ ρ
  put_equal a b g = evs_instead b (norm a σ) σ τ (norm_val a σ ρ τ k ∙ sym g ∙ ap (λ (l : List ℕ). val b l) (sym k)) ∙ k

raise_le : (u v : Normal) (x : ℕ) (τ : List ℕ) → ev u τ ≤ ev v τ → ev (raise u) (x ∷ τ) ≤ ev (raise v) (x ∷ τ)
raise_le u v x τ h = omega (arith, ev_raise u x τ, ev_raise v x τ)

sound : (s : Stmt) (σ : List Normal) (u v : Normal) (ρ τ : List ℕ) → evs σ τ ≡ ρ → ev u τ ≤ ev v τ → T (holds s σ u v) → Says s ρ
sound (e ≗ f) σ u v ρ τ k h t =
    let A = below (add (norm e σ) v) (add (norm f σ) u) in
    let B = below (add (norm f σ) v) (add (norm e σ) u) in
    le_antisymm (ordered σ ρ τ k e f u v h (and_l A B t)) (ordered σ ρ τ k f e u v h (and_r A B t))
sound (e ≼ f) σ u v ρ τ k h t = ordered σ ρ τ k e f u v h t
sound ((a ⊑ b by m) ⟹ s) σ u v ρ τ k h t =
    λ g.
    let fact = subst₂ ◌≤◌ (sym (norm_val a σ ρ τ k)) (sym (norm_val b σ ρ τ k)) g in
    sound s σ (add u (mul (norm m σ) (norm a σ))) (add v (mul (norm m σ) (norm b σ))) ρ τ k (add_fact u v (norm m σ) (norm a σ) (norm b σ) τ h fact) t
sound ((a ⊑ b) ⟹ s) σ u v ρ τ k h t =
    λ g.
    let d = val b ρ - val a ρ in
    sound s (instead b (hor (norm a σ) (con 1)) (map raise σ)) (raise u) (raise v) ρ (d ∷ τ) (put_sum σ ρ τ k a b g) (raise_le u v d τ h) t
sound ((b ≔ a) ⟹ s) σ u v ρ τ k h t = λ g. sound s (instead b (norm a σ) σ) u v ρ τ (put_equal σ ρ τ k a b g) h t

all : (n : ℕ) (s : Stmt) (ρ : List ℕ) → T (test (n + length ρ) s) → All n s ρ
all zero s ρ t = sound s (unknowns (length ρ)) (con 0) (con 0) ρ ρ (evs_unknowns ρ) zero-le (subst (λ (k : ℕ). T (test k s)) (zero-add (length ρ)) t)
all (suc n) s ρ t = λ x. all n s (x ∷ ρ) (subst (λ (k : ℕ). T (test k s)) (suc-add n (length ρ) ∙ sym (add-suc n (length ρ))) t)

-- `poly n (λ a b .. . statement) tt`: the statement, for all numbers a, b, ..
pub poly : (n : ℕ) (f : Fun n) → T (test n (apply n f)) → All n (apply n f) []
poly n f t = all n (apply n f) [] (subst (λ (k : ℕ). T (test k (apply n f))) (sym (add-zero n)) t)

-- Polynomials over ℕ: trees, their normal forms, and a test on the normal forms that decides equations and orders between polynomials.
-- Nobody has to believe this: proofs/Polynomial.antt says what a passed test gives, a statement on plain numbers.
use Rattle.std.specs.Prelude.{◌≡◌, List, [], ◌∷◌, map, Bool, ◌&&◌, ℕ, zero, suc, ◌+◌, ◌*◌, ◌^◌, ◌≤◌, leb, get_or, set}

infix 95 #◌
infixl 90 ◌↑◌
infixl 80 ◌⊗◌
infixl 70 ◌⊕◌
infix 40 ◌≗◌
infix 40 ◌≼◌
infix 40 ◌≺◌
infix 40 ◌⊑◌
infix 40 ◌⊏◌
infix 40 ◌⊑◌by◌
infix 40 ◌≔◌
infixr 30 ◌⟹◌
-- ---- trees

pub data Tree : Type 0 where
  var : ℕ → Tree
  #◌ : ℕ → Tree
  next : Tree → Tree
  ◌⊕◌ : Tree → Tree → Tree
  ◌⊗◌ : Tree → Tree → Tree
  ◌↑◌ : Tree → ℕ → Tree

-- what a tree stands for: ρ lists the values of the unknowns
abbrev pub val : Tree → List ℕ → ℕ
val (var i) ρ = get_or ρ i 0
val (# k) ρ = k
val (next e) ρ = suc (val e ρ)
val (e ⊕ f) ρ = val e ρ + val f ρ
val (e ⊗ f) ρ = val e ρ * val f ρ
val (e ↑ k) ρ = val e ρ ^ k

-- ---- normal forms

-- con k: the numeral k. hor a p: a + x * p, where x is the first unknown, and a is over the others
pub data Normal : Type 0 where
  con : ℕ → Normal
  hor : Normal → Normal → Normal

abbrev pub ev : Normal → List ℕ → ℕ
ev (con k) ρ = k
ev (hor a p) [] = ev a []
ev (hor a p) (x ∷ ρ) = ev a ρ + x * ev p (x ∷ ρ)

-- over one more unknown, the new first one
abbrev pub raise : Normal → Normal
raise (con k) = con k
raise (hor a p) = hor (hor a p) (con 0)

-- hor, but where p is 0 a numeral stays one
abbrev pub horner : Normal → Normal → Normal
horner a (con zero) = raise a
horner a (con (suc k)) = hor a (con (suc k))
horner a (hor b q) = hor a (hor b q)

abbrev pub add_con : ℕ → Normal → Normal
add_con k (con j) = con (k + j)
add_con k (hor a p) = hor (add_con k a) p

abbrev pub add : Normal → Normal → Normal
add (con k) q = add_con k q
add (hor a p) (con k) = hor (add_con k a) p
add (hor a p) (hor b q) = hor (add a b) (add p q)

abbrev pub scale : ℕ → Normal → Normal
scale k (con j) = con (k * j)
scale k (hor a p) = hor (scale k a) (scale k p)

abbrev pub mul_con : ℕ → Normal → Normal
mul_con zero q = con 0
mul_con (suc k) q = scale (suc k) q

-- q times an a that is over the other unknowns: times_a multiplies by a there
abbrev pub mul_rest : (Normal → Normal) → Normal → Normal → Normal
mul_rest times_a a (con k) = raise (mul_con k a)
mul_rest times_a a (hor b q) = horner (times_a b) (mul_rest times_a a q)

abbrev pub mul : Normal → Normal → Normal
mul (con k) q = mul_con k q
mul (hor a p) q = add (mul_rest (mul a) a q) (horner (con 0) (mul p q))

abbrev pub power_of : Normal → ℕ → Normal
power_of p zero = con 1
power_of p (suc k) = mul p (power_of p k)

-- the power of a numeral is computed at once
abbrev pub power : Normal → ℕ → Normal
power (con j) k = con (j ^ k)
power (hor a p) k = power_of (hor a p) k

-- a tree's normal form: σ lists what stands for each unknown
abbrev pub norm : Tree → List Normal → Normal
norm (var i) σ = get_or σ i (con 0)
norm (# k) σ = con k
norm (next e) σ = add_con 1 (norm e σ)
norm (e ⊕ f) σ = add (norm e σ) (norm f σ)
norm (e ⊗ f) σ = mul (norm e σ) (norm f σ)
norm (e ↑ k) σ = power (norm e σ) k

-- n unknowns, each standing for itself
abbrev pub unknowns : ℕ → List Normal
unknowns zero = []
unknowns (suc n) = hor (con 0) (con 1) ∷ map raise (unknowns n)

abbrev pub evs : List Normal → List ℕ → List ℕ
evs [] ρ = []
evs (p ∷ σ) ρ = ev p ρ ∷ evs σ ρ

-- each coefficient is at most the other's
abbrev pub con_below : ℕ → Normal → Bool
con_below j (con k) = leb j k
con_below j (hor b q) = con_below j b

abbrev pub below : Normal → Normal → Bool
below (con j) q = con_below j q
below (hor a p) (con k) = below a (con k) && below p (con 0)
below (hor a p) (hor b q) = below a b && below p q

-- ---- statements

-- a ⊑ b: b is an unknown, and a + (a new unknown) is put for it. a ⊑ b by m: m times the fact is used.
-- b ≔ a: b is an unknown, and a is put for it. Of any other b the first and the last are not used.
pub data Hyp : Type 0 where
  ◌⊑◌ : Tree → Tree → Hyp
  ◌⊑◌by◌ : Tree → Tree → Tree → Hyp
  ◌≔◌ : Tree → Tree → Hyp

pub data Stmt : Type 0 where
  ◌≗◌ : Tree → Tree → Stmt
  ◌≼◌ : Tree → Tree → Stmt
  ◌⟹◌ : Hyp → Stmt → Stmt

abbrev pub ◌⊏◌ : Tree → Tree → Hyp
a ⊏ b = next a ⊑ b

abbrev pub ◌≺◌ : Tree → Tree → Stmt
a ≺ b = next a ≼ b

-- what a fact and a statement say of numbers
abbrev pub Given : Hyp → List ℕ → Type 0
Given (a ⊑ b) ρ = val a ρ ≤ val b ρ
Given (a ⊑ b by m) ρ = val a ρ ≤ val b ρ
Given (b ≔ a) ρ = val b ρ ≡ val a ρ

abbrev pub Says : Stmt → List ℕ → Type 0
Says (e ≗ f) ρ = val e ρ ≡ val f ρ
Says (e ≼ f) ρ = val e ρ ≤ val f ρ
Says (h ⟹ s) ρ = Given h ρ → Says s ρ

-- ---- the test

-- p in the place of an unknown
abbrev pub instead : Tree → Normal → List Normal → List Normal
instead (var i) p σ = set σ i p
instead (# k) p σ = σ
instead (next e) p σ = σ
instead (e ⊕ f) p σ = σ
instead (e ⊗ f) p σ = σ
instead (e ↑ k) p σ = σ

-- u, v: the sums of the lower and of the upper sides of the facts used so far, so that u ≤ v
abbrev pub holds : Stmt → List Normal → Normal → Normal → Bool
holds (e ≗ f) σ u v = below (add (norm e σ) v) (add (norm f σ) u) && below (add (norm f σ) v) (add (norm e σ) u)
holds (e ≼ f) σ u v = below (add (norm e σ) v) (add (norm f σ) u)
holds ((a ⊑ b by m) ⟹ s) σ u v = let k = norm m σ in holds s σ (add u (mul k (norm a σ))) (add v (mul k (norm b σ)))
holds ((a ⊑ b) ⟹ s) σ u v = holds s (instead b (hor (norm a σ) (con 1)) (map raise σ)) (raise u) (raise v)
holds ((b ≔ a) ⟹ s) σ u v = holds s (instead b (norm a σ) σ) u v

abbrev pub test : ℕ → Stmt → Bool
test n s = holds s (unknowns n) (con 0) (con 0)

-- ---- statements on n numbers

abbrev pub Fun : ℕ → Type 0
Fun zero = Stmt
Fun (suc n) = Tree → Fun n

abbrev pub apply : (n : ℕ) → Fun n → Stmt
apply zero f = f
apply (suc n) f = apply n (f (var n))

abbrev pub All : ℕ → Stmt → List ℕ → Type 0
All zero s ρ = Says s ρ
All (suc n) s ρ = (x : ℕ) → All n s (x ∷ ρ)

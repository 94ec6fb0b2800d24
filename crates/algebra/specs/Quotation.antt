-- Trees for numbers as they stand in a goal, found by `search quoted`, and the tests on them.
-- A tree for the number n over the unknowns ρ is data of the type `Quote ρ n`: to find it is to find a proof.
-- Nobody has to believe this: proofs/Ring.antt says what a passed test gives.
use Rattle.std.specs.Prelude.{◌≡◌, Bool, true, false, ◌&&◌, ℕ, suc, ◌+◌, ◌*◌, ◌^◌, leb, eqb, length}
use mathlib.Core.List.{List, [], ◌∷◌, ◌++◌, reverse_aux}
use Rattle.algebra.specs.Polynomial.{Tree, var, #◌, next, ◌⊕◌, ◌⊗◌, ◌↑◌, Normal, con, hor, unknowns, norm, below}

-- ---- quotations

-- where an unknown stands: steps of four keep the search short
pub data At : List ℕ → ℕ → Type 0 where
  first : {a : ℕ} {ρ : List ℕ} → At (a ∷ ρ) a
  second : {a b : ℕ} {ρ : List ℕ} → At (a ∷ b ∷ ρ) b
  third : {a b c : ℕ} {ρ : List ℕ} → At (a ∷ b ∷ c ∷ ρ) c
  fourth : {a b c d : ℕ} {ρ : List ℕ} → At (a ∷ b ∷ c ∷ d ∷ ρ) d
  later : {a b c d n : ℕ} {ρ : List ℕ} → At ρ n → At (a ∷ b ∷ c ∷ d ∷ ρ) n

-- the tests of q_pow and q_lit compute where the number is a numeral, and are stuck elsewhere
pub data Quote : List ℕ → ℕ → Type 0 where
  q_add : {ρ : List ℕ} {m n : ℕ} → Quote ρ m → Quote ρ n → Quote ρ (m + n)
  q_mul : {ρ : List ℕ} {m n : ℕ} → Quote ρ m → Quote ρ n → Quote ρ (m * n)
  q_suc : {ρ : List ℕ} {n : ℕ} → Quote ρ n → Quote ρ (suc n)
  q_pow : {ρ : List ℕ} {m : ℕ} (k : ℕ) → eqb k k ≡ true → Quote ρ m → Quote ρ (m ^ k)
  q_var : {ρ : List ℕ} {n : ℕ} → At ρ n → Quote ρ n
  q_lit : {ρ : List ℕ} {n : ℕ} → eqb n n ≡ true → Quote ρ n

-- both sides of a goal
pub data Both : List ℕ → ℕ → ℕ → Type 0 where
  both : {ρ : List ℕ} {m n : ℕ} → Quote ρ m → Quote ρ n → Both ρ m n

-- what `search` is handed
pub ruleset quoted = (both, q_add, q_mul, q_var, first, second, third, fourth, later, q_lit, q_pow, q_suc)

abbrev pub place : {ρ : List ℕ} {n : ℕ} → At ρ n → ℕ
place first = 0
place second = 1
place third = 2
place fourth = 3
place (later p) = suc (suc (suc (suc (place p))))

abbrev pub tree : {ρ : List ℕ} {n : ℕ} → Quote ρ n → Tree
tree (q_add p q) = tree p ⊕ tree q
tree (q_mul p q) = tree p ⊗ tree q
tree (q_suc p) = next (tree p)
tree (q_pow k e p) = tree p ↑ k
tree (q_var p) = var (place p)
tree (q_lit {n = k} e) = # k

abbrev pub normal : {ρ : List ℕ} {n : ℕ} → Quote ρ n → Normal
normal {ρ} q = norm (tree q) (unknowns (length ρ))

-- ---- tests that say why they fail

-- a monomial: its coefficients on the left and on the right, and the exponents of the unknowns in the list's order
pub data Mono : Type 0 where
  mono : ℕ → ℕ → List ℕ → Mono

pub data Verdict : Type 0 where
  passes : Verdict
  fails : List Mono → Verdict

abbrev pub verdict : Bool → List Mono → Verdict
verdict true ds = passes
verdict false ds = fails ds

abbrev pub unless : Bool → Mono → List Mono
unless true d = []
unless false d = d ∷ []

abbrev pub flip : List Mono → List Mono
flip [] = []
flip (mono j k xs ∷ ds) = mono k j xs ∷ flip ds

-- The monomials that are more on the left. xs: the exponents of the unknowns passed, the last first; k: that of the one in hand
abbrev pub con_excess : ℕ → Normal → List ℕ → ℕ → List Mono
con_excess j (con i) xs k = unless (leb j i) (mono j i (reverse_aux xs (k ∷ [])))
con_excess j (hor b q) xs k = con_excess j b (k ∷ xs) 0

abbrev pub excess_from : Normal → Normal → List ℕ → ℕ → List Mono
excess_from (con j) q xs k = con_excess j q xs k
excess_from (hor a p) (con i) xs k = excess_from a (con i) (k ∷ xs) 0 ++ excess_from p (con 0) xs (suc k)
excess_from (hor a p) (hor b q) xs k = excess_from a b (k ∷ xs) 0 ++ excess_from p q xs (suc k)

abbrev pub excess : Normal → Normal → List Mono
excess a b = excess_from a b [] 0

abbrev pub test_le : Normal → Normal → Verdict
test_le a b = verdict (below a b) (excess a b)

abbrev pub test_eq : Normal → Normal → Verdict
test_eq a b = verdict (below a b && below b a) (excess a b ++ flip (excess b a))

abbrev pub at_most_lem : {ρ : List ℕ} {m n : ℕ} → Both ρ m n → Verdict
at_most_lem (both p q) = test_le (normal p) (normal q)

abbrev pub same : {ρ : List ℕ} {m n : ℕ} → Both ρ m n → Verdict
same (both p q) = test_eq (normal p) (normal q)

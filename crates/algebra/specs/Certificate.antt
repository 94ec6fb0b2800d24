-- The search of `nl`: which facts to use, and what to multiply each by, so that the goal's right side less its left has no negative coefficient.
-- Nobody has to believe this: what the search finds is tested, and proofs/Nonlinear.antt says what a passed test gives.
use Rattle.std.specs.Prelude.{◌≡◌, Bool, true, false, ◌&&◌, ℕ, zero, suc, ◌+◌, ◌*◌, ◌-◌, ◌/◌, ◌≤◌, max, leb, ltb, get_or, length}
use Rattle.std.proofs.Common.{sym, le_of_eq}
use mathlib.Core.List.{List, [], ◌∷◌, tail}
use Rattle.std.proofs.Math.Option.{Option, some, none}
use Rattle.algebra.specs.Polynomial.{Normal, con, hor, raise, add, mul}
use Rattle.algebra.specs.Quotation.{Quote, quoted, normal, Mono, mono, Verdict, excess, test_le}

infixr 20 ◌&◌
infixr 20 ◌&≡◌
-- ---- facts, and their quotations

pub data Pair : Type 0 where
  pair : ℕ → ℕ → Pair

pub data Facts : List Pair → Type 0 where
  done : Facts []
  ◌&◌ : {a b : ℕ} {ps : List Pair} → a ≤ b → Facts ps → Facts (pair a b ∷ ps)

-- an equation, for use both ways
pub ◌&≡◌ : {a b : ℕ} {ps : List Pair} → a ≡ b → Facts ps → Facts (pair a b ∷ pair b a ∷ ps)
e &≡ hs = le_of_eq e & le_of_eq (sym e) & hs

pub data Quotes : List ℕ → List Pair → Type 0 where
  q_done : {ρ : List ℕ} → Quotes ρ []
  q_more : {ρ : List ℕ} {a b : ℕ} {ps : List Pair} → Quote ρ a → Quote ρ b → Quotes ρ ps → Quotes ρ (pair a b ∷ ps)

-- the facts and both sides of the goal
pub data Job : List ℕ → List Pair → ℕ → ℕ → Type 0 where
  job : {ρ : List ℕ} {ps : List Pair} {m n : ℕ} → Quotes ρ ps → Quote ρ m → Quote ρ n → Job ρ ps m n

-- what `search` is handed
pub ruleset jobs = (job, q_more, q_done, quoted)

-- the job with the sides of the goal changed about
abbrev pub turn : {ρ : List ℕ} {ps : List Pair} {m n : ℕ} → Job ρ ps m n → Job ρ ps n m
turn (job qs p q) = job qs q p

-- a fact's lower and upper side
pub data Side : Type 0 where
  side : Normal → Normal → Side

abbrev pub lower : Side → Normal
lower (side a b) = a

abbrev pub upper : Side → Normal
upper (side a b) = b

abbrev pub sides : {ρ : List ℕ} {ps : List Pair} → Quotes ρ ps → List Side
sides q_done = []
sides (q_more p q qs) = side (normal p) (normal q) ∷ sides qs

abbrev pub fact : List Side → ℕ → Side
fact fs i = get_or fs i (side (con 0) (con 0))

-- ---- certificates

-- the fact at this place, times this
pub data Step : Type 0 where
  step : ℕ → Normal → Step

abbrev pub lows : List Step → List Side → Normal
lows [] fs = con 0
lows (step i m ∷ ss) fs = add (lows ss fs) (mul m (lower (fact fs i)))

abbrev pub highs : List Step → List Side → Normal
highs [] fs = con 0
highs (step i m ∷ ss) fs = add (highs ss fs) (mul m (upper (fact fs i)))

-- the upper sides on the left, the lower sides on the right
abbrev pub tested : List Step → List Side → Normal → Normal → Verdict
tested ss fs l r = test_le (add l (highs ss fs)) (add r (lows ss fs))

-- ---- exponents, in the order of the unknowns

abbrev pub sum : List ℕ → ℕ
sum [] = 0
sum (x ∷ xs) = x + sum xs

abbrev pub most : List ℕ → List ℕ → List ℕ
most [] ys = ys
most (x ∷ xs) [] = x ∷ xs
most (x ∷ xs) (y ∷ ys) = max x y ∷ most xs ys

abbrev pub put : ℕ → Option (List ℕ) → Option (List ℕ)
put x none = none
put x (some xs) = some (x ∷ xs)

abbrev pub put_if : Bool → ℕ → Option (List ℕ) → Option (List ℕ)
put_if true x r = put x r
put_if false x r = none

abbrev pub all_zero : List ℕ → Option (List ℕ)
all_zero [] = some []
all_zero (zero ∷ ys) = all_zero ys
all_zero (suc y ∷ ys) = none

-- xs less ys, where that is not negative
abbrev pub less : List ℕ → List ℕ → Option (List ℕ)
less [] ys = all_zero ys
less (x ∷ xs) [] = some (x ∷ xs)
less (x ∷ xs) (y ∷ ys) = put_if (leb y x) (x - y) (less xs ys)

abbrev pub is_some : Option (List ℕ) → Bool
is_some none = false
is_some (some xs) = true

-- ---- monomials

abbrev pub shift : ℕ → Normal → Normal
shift zero p = p
shift (suc e) p = hor (con 0) (shift e p)

-- k times the monomial with these exponents
abbrev pub monomial : ℕ → List ℕ → Normal
monomial k [] = con k
monomial k (e ∷ xs) = shift e (raise (monomial k xs))

abbrev pub terms : Normal → List Mono
terms a = excess a (con 0)

abbrev pub coefficient : Normal → List ℕ → ℕ
coefficient (con j) [] = j
coefficient (con j) (zero ∷ xs) = coefficient (con j) xs
coefficient (con j) (suc e ∷ xs) = 0
coefficient (hor a p) [] = coefficient a []
coefficient (hor a p) (zero ∷ xs) = coefficient a xs
coefficient (hor a p) (suc e ∷ xs) = coefficient p (e ∷ xs)

abbrev pub degree : List Mono → ℕ
degree [] = 0
degree (mono j i ys ∷ ds) = max (sum ys) (degree ds)

-- each unknown's greatest exponent
abbrev pub greatest : List Mono → List ℕ → List ℕ
greatest [] xs = xs
greatest (mono j i ys ∷ ds) xs = greatest ds (most ys xs)

-- each exponent is within its cap, and their sum within the cap of all
abbrev pub within : List Mono → List ℕ → ℕ → Bool
within [] top tot = true
within (mono j i ys ∷ ds) top tot = is_some (less top ys) && (leb (sum ys) tot && within ds top tot)

-- ---- candidates for the next step

-- a fact at place i, times a monomial m of the degree g: g, i, m, m times its lower side, m times its upper side
pub data Cand : Type 0 where
  cand : ℕ → ℕ → Normal → Normal → Normal → Cand

abbrev pub cand_degree : Cand → ℕ
cand_degree (cand g i m a b) = g

-- those of a lesser degree first
abbrev pub insert : Cand → List Cand → List Cand
insert c [] = c ∷ []
insert c (d ∷ cs) = elim (leb (cand_degree c) (cand_degree d)) [ true ↦ c ∷ d ∷ cs | false ↦ d ∷ insert c cs ]

abbrev pub insert_if : Bool → Cand → List Cand → List Cand
insert_if true c cs = insert c cs
insert_if false c cs = cs

-- the excess e at the exponents xs, and a term k ys of the lower side a of a fact: kept, if there is less of the excess afterwards
abbrev pub by_term : ℕ → ℕ → List ℕ → ℕ → Normal → Normal → List ℕ → ℕ → Option (List ℕ) → List Cand → List Cand
by_term i e xs k a b top tot none cs = cs
by_term i e xs k a b top tot (some zs) cs =
    let m = monomial ((e + (k - 1)) / k) zs in
    let g = mul m a in
    let h = mul m b in
    insert_if (ltb (coefficient h xs) (coefficient g xs) && within (terms h) top tot) (cand (sum zs) i m g h) cs

abbrev pub by_fact : ℕ → ℕ → List ℕ → Normal → Normal → List ℕ → ℕ → List Mono → List Cand → List Cand
by_fact i e xs a b top tot [] cs = cs
by_fact i e xs a b top tot (mono k j ys ∷ ts) cs = by_term i e xs k a b top tot (less xs ys) (by_fact i e xs a b top tot ts cs)

abbrev pub candidates : ℕ → ℕ → List ℕ → List ℕ → ℕ → List Side → List Cand
candidates i e xs top tot [] = []
candidates i e xs top tot (side a b ∷ fs) = by_fact i e xs a b top tot (terms a) (candidates (suc i) e xs top tot fs)

-- ---- the search, depth first

-- what it found, or how many tries are left
pub data Found : Type 0 where
  found : List Step → Found
  left : ℕ → Found

abbrev pub tries : (ℕ → Normal → Normal → Found) → ℕ → Normal → Normal → List Cand → Found
tries f n l r [] = left n
tries f n l r (cand g i m a b ∷ cs) =
    elim (f n (add l b) (add r a)) [ found ss ↦ found (step i m ∷ ss) | left k ↦ elim k [ zero ↦ left 0 | suc o ↦ tries f (suc o) l r cs ] ]

abbrev pub look : (ℕ → Normal → Normal → Found) → List Side → List ℕ → ℕ → ℕ → Normal → Normal → List Mono → Found
look f fs top tot n l r [] = found []
look f fs top tot zero l r (mono j i xs ∷ ds) = left 0
look f fs top tot (suc n) l r (mono j i xs ∷ ds) = tries f n l r (candidates 0 (j - i) xs top tot fs)

-- at most d facts in a row, at most n tries in all
abbrev pub descend : ℕ → List Side → List ℕ → ℕ → ℕ → Normal → Normal → Found
descend zero fs top tot n l r = elim (excess l r) [ [] ↦ found [] | d ∷ ds ↦ left n ]
descend (suc d) fs top tot n l r = look (descend d fs top tot) fs top tot n l r (excess l r)

abbrev pub steps : Found → List Step
steps (found ss) = ss
steps (left n) = []

-- An unknown of the right side has its greatest exponent there, on the left, or in a fact for its cap; any other has the cap of all
abbrev pub cap : ℕ → ℕ → ℕ → ℕ
cap zero tot a = tot
cap (suc r) tot a = a

abbrev pub caps : ℕ → ℕ → List ℕ → List ℕ → List ℕ
caps zero tot rs us = []
caps (suc n) tot rs us = cap (get_or rs 0 0) tot (get_or us 0 0) ∷ caps n tot (tail rs) (tail us)

abbrev pub greatest_upper : List Side → List ℕ → List ℕ
greatest_upper [] xs = xs
greatest_upper (side a b ∷ fs) xs = greatest_upper fs (greatest (terms b) xs)

-- over n unknowns, for l ≤ r
abbrev pub find : ℕ → ℕ → List Side → Normal → Normal → List Step
find d n fs l r =
    let sl = terms l in
    let sr = terms r in
    let tot = max (degree sl) (degree sr) + 2 in
    steps (descend d fs (caps n tot (greatest sr []) (greatest_upper fs (greatest sl (greatest sr [])))) tot (32 * d) l r)

abbrev pub runs : ℕ → {ρ : List ℕ} {ps : List Pair} {m n : ℕ} → Job ρ ps m n → Verdict
runs k (job {ρ = ρ} qs p q) =
    let fs = sides qs in
    let l = normal p in
    let r = normal q in
    tested (find k (length ρ) fs l r) fs l r

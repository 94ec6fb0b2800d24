-- Laws of a list of checks, each by one induction over the list. Assumes nothing.
use mathlib.Core.Path.{◌≡◌, refl, sym, ap, ◌∙◌}
use mathlib.Core.Bool.{Bool, true, false}
use mathlib.Core.Logic.{◌⊎◌, inl, inr}
use mathlib.Core.List.{List, [], ◌∷◌, map}
use Rattle.std.proofs.lemmas.Result.{err_from_is_err_and}
use Rattle.std.specs.Prelude.{Result, Ok, Err, IsErrAnd}
use Rattle.algebra.proofs.Tests.{clash}
use Rattle.answer.specs.declared.Refusal.{Refusal}
use Rattle.answer.specs.Checks.{Check, FirstBroken, AllPassed}
use Rattle.answer.specs.Answering.{first_or, refusal_by}

-- what f gives of the first check broken, or, where none is, a
pub first_or_lem : {A : Type 0} (f : Refusal → A) (a : A) (ks : List Check) →
    ((n : Refusal) × (FirstBroken ks n × (first_or f a ks ≡ f n))) ⊎ (AllPassed ks × (first_or f a ks ≡ a))
first_or_lem f a [] = inr (tt, refl)
first_or_lem {A} f a (k ∷ ks) = go k.passed refl (first_or_lem f a ks)
  where
    go : (b : Bool) → k.passed ≡ b → ((n : Refusal) × (FirstBroken ks n × (first_or f a ks ≡ f n))) ⊎ (AllPassed ks × (first_or f a ks ≡ a)) →
        ((n : Refusal) × (FirstBroken (k ∷ ks) n × (first_or f a (k ∷ ks) ≡ f n))) ⊎ (AllPassed (k ∷ ks) × (first_or f a (k ∷ ks) ≡ a))
    go false e r = inl (k.refusal, (inl (e, refl), rw e refl))
    go true e (inl (n, (g, is))) = inl (n, (inr (e, g), rw e is))
    go true e (inr (all, is)) = inr ((e, all), rw e is)

-- where a check is broken, and where none is
pub first_broken : {A : Type 0} (f : Refusal → A) (a : A) (ks : List Check) (n : Refusal) → FirstBroken ks n → first_or f a ks ≡ f n
first_broken {A = A} f a [] n x' = elim x' [ ]
first_broken f a (k ∷ ks) n (inl (e, is)) = rw (e, is) refl
first_broken f a (k ∷ ks) n (inr (e, g)) = rw e (first_broken f a ks n g)

pub all_passed : {A : Type 0} (f : Refusal → A) (a : A) (ks : List Check) → AllPassed ks → first_or f a ks ≡ a
all_passed f a [] all = refl
all_passed f a (k ∷ ks) (e, all) = rw e (all_passed f a ks all)

-- one check at most is the first broken
pub first_once : (ks : List Check) (m n : Refusal) → FirstBroken ks m → FirstBroken ks n → m ≡ n
first_once [] m n x'' _ = elim x'' [ ]
first_once (k ∷ ks) m n (inl (f, e)) (inl (g, d)) = sym e ∙ d
first_once (k ∷ ks) m n (inl (f, e)) (inr (t, r)) = absurd (clash t f)
first_once (k ∷ ks) m n (inr (t, r)) (inl (f, e)) = absurd (clash t f)
first_once (k ∷ ks) m n (inr (t, r)) (inr (u, q)) = first_once ks m n r q

-- and none is where all are passed
pub broken_passed : (ks : List Check) (n : Refusal) → FirstBroken ks n → AllPassed ks → ⊥
broken_passed [] n x'' _ = elim x'' [ ]
broken_passed (k ∷ ks) n (inl (f, e)) (t, all) = clash t f
broken_passed (k ∷ ks) n (inr (t, r)) (u, all) = broken_passed ks n r all

-- the refusals of the checks, and r is one of them
abbrev pub refusals : List Check → List Refusal
refusals ks = map (λ (k : Check). k.refusal) ks

abbrev pub Among : Refusal → List Refusal → Type 0
Among r [] = ⊥
Among r (s ∷ ss) = (s ≡ r) ⊎ Among r ss

pub first_among : (ks : List Check) (r : Refusal) → FirstBroken ks r → Among r (refusals ks)
first_among [] r x' = elim x' [ ]
first_among (k ∷ ks) r (inl (f, e)) = inl e
first_among (k ∷ ks) r (inr (t, g)) = inr (first_among ks r g)

-- what holds of each of them holds of r
abbrev pub Every : (Refusal → Type 0) → List Refusal → Type 0
Every P [] = Unit {0}
Every P (s ∷ ss) = P s × Every P ss

pub among_every : (P : Refusal → Type 0) (ss : List Refusal) (r : Refusal) → Among r ss → Every P ss → P r
among_every P [] r x'' _ = elim x'' [ ]
among_every P (s ∷ ss) r (inl e) (p, ps) = rw (← e) p
among_every P (s ∷ ss) r (inr a) (p, ps) = among_every P ss r a ps

-- ---- for the code: what the way through the checks says of them

-- what `?` gives back
pub returned : {T : Type 0} (r : Result T Refusal) (n : Refusal) → IsErrAnd r (λ m. m ≡ n) → r ≡ Err n
returned r n is = let (m, e, same) = err_from_is_err_and r is in e ∙ ap Err same

module _ (ks : List Check) where
  pub refusal_broken : (r : Refusal) → Err r ≡ refusal_by ks → FirstBroken ks r
  refusal_broken r is = go (first_or_lem Err (Ok tt) ks)
    where
      go : ((m : Refusal) × (FirstBroken ks m × (refusal_by ks ≡ Err m))) ⊎ (AllPassed ks × (refusal_by ks ≡ Ok tt)) → FirstBroken ks r
      go (inl (m, (f, e))) = let same : m ≡ r = cc in rw (← same) f
      go (inr (all, e)) = cc

  pub refusal_none : Ok tt ≡ refusal_by ks → AllPassed ks
  refusal_none is = go (first_or_lem Err (Ok tt) ks)
    where
      go : ((m : Refusal) × (FirstBroken ks m × (refusal_by ks ≡ Err m))) ⊎ (AllPassed ks × (refusal_by ks ≡ Ok tt)) → AllPassed ks
      go (inl (m, (f, e))) = cc
      go (inr (all, e)) = all

  -- and of what else is given by them
  pub refused_first : {A : Type 0} (f : Refusal → A) (a : A) (r : Refusal) → Err r ≡ refusal_by ks → f r ≡ first_or f a ks
  refused_first f a r is = sym (first_broken f a ks r (refusal_broken r is))

  pub passed_first : {A : Type 0} (f : Refusal → A) (a : A) → Ok tt ≡ refusal_by ks → a ≡ first_or f a ks
  passed_first f a is = sym (all_passed f a ks (refusal_none is))

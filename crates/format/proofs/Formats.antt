-- The laws of a format, that is of what is written and what is read: reading is the inverse of writing; and each composition keeps them.
-- Assumes nothing.
use mathlib.Core.Path.{◌≡◌, refl, sym, ap, ◌∙◌, subst}
use Prim.Native.Nat.{ℕ, zero, suc, ◌≤◌, ◌<◌}
use native.Mathlib.Omega.{arith}
use mathlib.Core.Bool.{Bool, true, false}
use mathlib.Core.List.{List, [], ◌∷◌, ◌++◌, append_assoc, append-nil}
use mathlib.Core.Logic.{◌⊎◌, inl, inr}
use lib.ListN.{length, drop}
use lib.Seq.{drop-append_seam}
use lib.Dec.{eqb}
use borrow.Author.Tests.{eqb-true, eq-eqb}
use Rattle.algebra.specs.Choice.{pick}
use Rattle.text.specs.Bytes.{decimal}
use Rattle.text.specs.Slices.{up_to}
use Rattle.text.proofs.Laws.{up_to_split}
use Rattle.word.specs.Words.{ends_word}
use Rattle.word.specs.Numbers.{number_of}
use Rattle.std.proofs.Common.{Option, Some, None}
use Rattle.word.proofs.Decimal.{number_decimal, decimal_number, word_decimal}
use Rattle.format.specs.Texts.{Each, each}
use Rattle.format.specs.Readers.{Found, found, Reader, on, or_else, starts_with, fixed, empty, number_found, number, sequence, changed, one_of, several, found_some, one_to, before, closed, optional, whole}

-- values that are Small, written and followed by bytes that may follow, read as themselves; what reads is such a value's text
pub record Format {A : Type 0} (Small : A → Type 0) (Follows : List ℕ → Type 0) (written : A → List ℕ) (read : Reader A) : Type 0 where
  pub complete : (a : A) (rest : List ℕ) → Small a → Follows rest → read (written a ++ rest) ≡ found a rest
  pub sound : (s : List ℕ) (a : A) (rest : List ℕ) → read s ≡ found a rest → Small a × (s ≡ written a ++ rest)

-- ---- of the parts of a composed value: that each is small, and the bytes of each

abbrev pub Both : {A B : Type 0} → (A → Type 0) → (B → Type 0) → A × B → Type 0
Both S T p = S p.0 × T p.1

abbrev pub both : {A B : Type 0} → (A → List ℕ) → (B → List ℕ) → A × B → List ℕ
both w v p = w p.0 ++ v p.1

-- nothing is not something
differ : {A : Type 0} {C : Type 0} (a : A) (rest : List ℕ) → None ≡ found a rest → C
differ a rest e = absurd (let z : ◌≡◌ {A = ℕ} 0 1 = cc in omega arith)

-- what was found is one value, and one rest
pub same_value : {A : Type 0} {a b : A} {r s : List ℕ} → found a r ≡ found b s → a ≡ b
same_value {A} {a} {b} {r} {s} e = let both : (a, r) ≡ (b, s) = cc in ap (λ (p : A × List ℕ). p.0) both

pub same_rest : {A : Type 0} {a b : A} {r s : List ℕ} → found a r ≡ found b s → r ≡ s
same_rest {A} {a} {b} {r} {s} e = let both : (a, r) ≡ (b, s) = cc in ap (λ (p : A × List ℕ). p.1) both

-- ---- no bytes, fixed bytes, a number

abbrev pub Always : {A : Type 0} → A → Type 0
Always a = Unit {0}

abbrev nil : Unit {0} → List ℕ
nil u = []

format_empty : (Follows : List ℕ → Type 0) → Format Always Follows nil empty
unfolding empty
format_empty Follows = record { complete = λ a rest small follows. refl; sound = λ s a rest e. (tt, let same : s ≡ rest = same_rest e in same) }

starts_append : (w s : List ℕ) → starts_with w (w ++ s) ≡ true
unfolding starts_with
starts_append [] s = refl
starts_append (b ∷ w) s = rw (eq-eqb b b refl) (starts_append w s)

starts_split : (w s : List ℕ) → starts_with w s ≡ true → s ≡ w ++ drop (length w) s
unfolding starts_with
starts_split [] s e = refl
starts_split (b ∷ w) [] e = absurd (let z : ◌≡◌ {A = ℕ} 0 1 = cc in omega arith)
starts_split (b ∷ w) (c ∷ s) e = go (λ q. starts_split w s q) (eqb b c) refl e
  where
    go : (starts_with w s ≡ true → s ≡ w ++ drop (length w) s) → (t : Bool) → eqb b c ≡ t → pick t (starts_with w s) false ≡ true → c ∷ s ≡ b ∷ (w ++ drop (length w) s)
    go on true p q = rw (eqb-true b c p) (ap (λ (l : List ℕ). c ∷ l) (on q))
    go on false p q = absurd (let z : ◌≡◌ {A = ℕ} 0 1 = cc in omega arith)

pub format_fixed : (w : List ℕ) → Format Always Always (λ u. w) (fixed w)
unfolding fixed
format_fixed w =
    record {
      complete = λ a rest small follows. rw (starts_append w rest, drop-append_seam w rest) refl;
      sound = λ s a rest e. go s a rest (starts_with w s) refl e;
    }
  where
    go : (s : List ℕ) (a : Unit {0}) (rest : List ℕ) (t : Bool) → starts_with w s ≡ t → pick t (found tt (drop (length w) s)) None ≡ found a rest → Unit {0} × (s ≡ w ++ rest)
    go s a rest true p q = let same : drop (length w) s ≡ rest = same_rest q in (tt, starts_split w s p ∙ ap (λ (l : List ℕ). w ++ l) same)
    go s a rest false p q = differ a rest q

-- the bytes begin with one that ends a word
abbrev pub EndsWord : List ℕ → Type 0
EndsWord [] = ⊥
EndsWord (b ∷ rest) = ends_word b ≡ true

pub format_number : Format (λ n. n < 10000000) EndsWord decimal number
unfolding number
format_number = record { complete = whole; sound = λ s n rest e. go s n rest (number_of (up_to ends_word s)) refl e }
  where
    cut : (n : ℕ) (rest : List ℕ) → EndsWord rest → up_to ends_word (decimal n ++ rest) ≡ decimal n
    cut n [] h = absurd h
    cut n (b ∷ rest) h = word_decimal n b rest h

    whole : (n : ℕ) (rest : List ℕ) → n < 10000000 → EndsWord rest
        → number_found (number_of (up_to ends_word (decimal n ++ rest))) (drop (length (up_to ends_word (decimal n ++ rest))) (decimal n ++ rest)) ≡ found n rest
    whole n rest small follows = rw (cut n rest follows, number_decimal n small, drop-append_seam (decimal n) rest) refl

    go : (s : List ℕ) (n : ℕ) (rest : List ℕ) (o : Option ℕ) → number_of (up_to ends_word s) ≡ o → number_found o (drop (length (up_to ends_word s)) s) ≡ found n rest
        → (n < 10000000) × (s ≡ decimal n ++ rest)
    go s n rest None p q = differ n rest q
    go s n rest (Some m) p q =
        let is : m ≡ n = same_value q in
        let same : drop (length (up_to ends_word s)) s ≡ rest = same_rest q in
        let (word, below) = decimal_number (up_to ends_word s) n (p ∙ ap Some is) in
        (below, up_to_split ends_word s ∙ rw (same, word) refl)

-- ---- one after the other: what the second writes may follow the first

module _ {A B : Type 0} {S : A → Type 0} {F : List ℕ → Type 0} {w : A → List ℕ} {f : Reader A} {T : B → Type 0} {G : List ℕ → Type 0} {v : B → List ℕ} {g : Reader B}
    (first : Format S F w f) (second : Format T G v g) where
  pub format_sequence : ((b : B) (rest : List ℕ) → T b → G rest → F (v b ++ rest)) → Format (Both S T) G (both w v) (sequence f g)
  unfolding sequence
  format_sequence glue =
      record {
        complete = λ p rest small follows.
            rw (append_assoc (w p.0) (v p.1) rest, first.complete p.0 (v p.1 ++ rest) small.0 (glue p.1 rest small.1 follows), second.complete p.1 rest small.1 follows) refl;
        sound = λ s p rest e. go s p rest (f s) refl e;
      }
    where
      next : (s : List ℕ) (p : A × B) (rest : List ℕ) (a : A) (r : List ℕ) → f s ≡ found a r → (o : Found B) → g r ≡ o → on o (λ b rest'. found (a, b) rest') ≡ found p rest → Both S T p × (s ≡ both w v p ++ rest)
      next s p rest a r e None e' q = differ p rest q
      next s p rest a r e (Some (b, r')) e' q =
          let is : (a, b) ≡ p = same_value q in
          let same : r' ≡ rest = same_rest q in
          let (small, here) = first.sound s a r e in
          let (small', there) = second.sound r b r' e' in
          subst (λ (p : A × B). Both S T p × (s ≡ both w v p ++ rest)) is
          ((small, small'), here ∙ rw (there, same, append_assoc (w a) (v b) rest) refl)

      go : (s : List ℕ) (p : A × B) (rest : List ℕ) (o : Found A) → f s ≡ o → on o (λ a r. on (g r) (λ b rest'. found (a, b) rest')) ≡ found p rest → Both S T p × (s ≡ both w v p ++ rest)
      go s p rest None e q = differ p rest q
      go s p rest (Some (a, r)) e q = next s p rest a r e (g r) refl q

-- ---- the same text, for another value, by two functions that are each other's inverse

module _ {A B : Type 0} {S : A → Type 0} {F : List ℕ → Type 0} {w : A → List ℕ} {f : Reader A} (to : A → B) (from : B → A)
    (to-from : (b : B) → to (from b) ≡ b) (from-to : (a : A) → from (to a) ≡ a) where
  pub format_changed : Format S F w f → Format (λ b. S (from b)) F (λ b. w (from b)) (changed to f)
  unfolding changed
  format_changed of =
      record {
        complete = λ b rest small follows. rw (of.complete (from b) rest small follows, to-from b) refl;
        sound = λ s b rest e. go s b rest (f s) refl e;
      }
    where
      go : (s : List ℕ) (b : B) (rest : List ℕ) (o : Found A) → f s ≡ o → on o (λ a r. found (to a) r) ≡ found b rest → S (from b) × (s ≡ w (from b) ++ rest)
      go s b rest None e q = differ b rest q
      go s b rest (Some (a, r)) e q =
          let is : to a ≡ b = same_value q in
          let same : r ≡ rest = same_rest q in
          let back : a ≡ from b = sym (from-to a) ∙ ap from is in
          let (small, here) = of.sound s a r e in
          (subst (λ (x : A). S x) back small, here ∙ rw (same, back) refl)

-- ---- one of two kinds: the first finds nothing where the second is written

-- each value is of one of the kinds
abbrev pub Kinds : {A B C : Type 0} → (A → C) → (B → C) → Type 0
Kinds {A} {B} {C} h k = (c : C) → ((a : A) × (h a ≡ c)) ⊎ ((b : B) × (k b ≡ c))

module _ {A B C : Type 0} {S : C → Type 0} {w : C → List ℕ} {F G : List ℕ → Type 0} {f : Reader A} {g : Reader B} (h : A → C) (k : B → C) (kinds : Kinds h k)
    (first : Format (λ a. S (h a)) F (λ a. w (h a)) f) (second : Format (λ b. S (k b)) G (λ b. w (k b)) g) where
  pub format_one_of : ((b : B) (rest : List ℕ) → S (k b) → G rest → f (w (k b) ++ rest) ≡ None) → Format S (λ rest. F rest × G rest) w (one_of h k f g)
  unfolding one_of
  format_one_of apart = record { complete = λ c rest small follows. whole c rest small follows (kinds c); sound = λ s c rest e. go s c rest (f s) refl (g s) refl e }
    where
      Complete : C → List ℕ → Type 0
      Complete c rest = or_else (f (w c ++ rest)) (λ a r. found (h a) r) (on (g (w c ++ rest)) (λ b r. found (k b) r)) ≡ found c rest

      whole : (c : C) (rest : List ℕ) → S c → F rest × G rest → ((a : A) × (h a ≡ c)) ⊎ ((b : B) × (k b ≡ c)) → Complete c rest
      whole c rest small follows (inl (a, is)) = subst (λ (c : C). S c → Complete c rest) is (λ small. rw (first.complete a rest small follows.0) refl) small
      whole c rest small follows (inr (b, is)) =
          subst (λ (c : C). S c → Complete c rest) is (λ small. rw (apart b rest small follows.1, second.complete b rest small follows.1) refl) small

      go : (s : List ℕ) (c : C) (rest : List ℕ) (o : Found A) → f s ≡ o → (o' : Found B) → g s ≡ o'
          → or_else o (λ a r. found (h a) r) (on o' (λ b r. found (k b) r)) ≡ found c rest → S c × (s ≡ w c ++ rest)
      go s c rest None e None e' q = differ c rest q
      go s c rest None e (Some (b, r)) e' q =
          let is : k b ≡ c = same_value q in
          let same : r ≡ rest = same_rest q in
          subst (λ (c : C). S c × (s ≡ w c ++ rest)) is (second.sound s b rest (e' ∙ ap (λ (l : List ℕ). found b l) same))
      go s c rest (Some (a, r)) e o' e' q =
          let is : h a ≡ c = same_value q in
          let same : r ≡ rest = same_rest q in
          subst (λ (c : C). S c × (s ≡ w c ++ rest)) is (first.sound s a rest (e ∙ ap (λ (l : List ℕ). found a l) same))

-- ---- values one after the other: one may follow another, and none is found in what follows the last

module _ {A : Type 0} {S : A → Type 0} {F : List ℕ → Type 0} {w : A → List ℕ} {f : Reader A} (one : Format S F w f) where
  abbrev Parts : ℕ → List ℕ → List A → List ℕ → Type 0
  Parts k s l rest = ((length l ≤ k) × Each S l) × (s ≡ each w l ++ rest)

  no_parts : (k : ℕ) (s : List ℕ) (l : List A) (rest : List ℕ) → found [] s ≡ found l rest → Parts k s l rest
  no_parts k s l rest e =
      let is : [] ≡ l = same_value e in
      let same : s ≡ rest = same_rest e in
      subst (λ (l : List A). Parts k s l rest) is ((omega arith, tt), same)

  parts : (k : ℕ) (s : List ℕ) (l : List A) (rest : List ℕ) → several k f s ≡ found l rest → Parts k s l rest
  unfolding several
  parts zero s l rest e = no_parts zero s l rest e
  parts (suc k) s l rest e = go (λ r m r' q. parts k r m r' q) (f s) refl e
    where
      More : Type 0
      More = (r : List ℕ) (m : List A) (r' : List ℕ) → several k f r ≡ found m r' → Parts k r m r'

      next : More → (a : A) (r : List ℕ) → f s ≡ found a r → (o : Found (List A)) → several k f r ≡ o → on o (λ m rest'. found (a ∷ m) rest') ≡ found l rest → Parts (suc k) s l rest
      next more a r e None e' q = differ l rest q
      next more a r e (Some (m, r')) e' q =
          let is : a ∷ m ≡ l = same_value q in
          let same : r' ≡ rest = same_rest q in
          let (small, here) = one.sound s a r e in
          let ((few, smalls), there) = more r m r' e' in
          subst (λ (l : List A). Parts (suc k) s l rest) is
          ((omega arith, (small, smalls)), here ∙ rw (there, same) (sym (append_assoc (w a) (each w m) rest)))

      go : More → (o : Found A) → f s ≡ o → or_else o (λ a rest. on (several k f rest) (λ l rest'. found (a ∷ l) rest')) (found [] s) ≡ found l rest → Parts (suc k) s l rest
      go more None e q = no_parts (suc k) s l rest q
      go more (Some (a, r)) e q = next more a r e (several k f r) refl q

  module _ (glue : (a : A) (rest : List ℕ) → S a → F rest → F (w a ++ rest)) where
    follow : (l : List A) (rest : List ℕ) → Each S l → F rest → F (each w l ++ rest)
    follow [] rest small follows = follows
    follow (a ∷ l) rest small follows = rw (append_assoc (w a) (each w l) rest) (glue a (each w l ++ rest) small.0 (follow l rest small.1 follows))

    all : (k : ℕ) (l : List A) (rest : List ℕ) → length l ≤ k → Each S l → F rest → f rest ≡ None → several k f (each w l ++ rest) ≡ found l rest
    unfolding several
    all zero [] rest few small follows end = refl
    all zero (a ∷ l) rest few small follows end = absurd (omega arith)
    all (suc k) [] rest few small follows end = rw end refl
    all (suc k) (a ∷ l) rest few small follows end =
        rw (append_assoc (w a) (each w l) rest, one.complete a (each w l ++ rest) small.0 (follow l rest small.1 follows), all k l rest (omega arith) small.1 follows end) refl

    pub format_several : (k : ℕ) → Format (λ l. (length l ≤ k) × Each S l) (λ rest. F rest × (f rest ≡ None)) (each w) (several k f)
    format_several k =
        record {
          complete = λ l rest small follows. all k l rest small.0 small.1 follows.0 follows.1;
          sound = λ s l rest e. parts k s l rest e;
        }

    pub format_one_to : (k : ℕ) → Format (λ l. (1 ≤ length l) × (length l ≤ k) × Each S l) (λ rest. F rest × (f rest ≡ None)) (each w) (one_to k f)
    unfolding one_to
    format_one_to k = record { complete = whole; sound = λ s l rest e. go s l rest (several k f s) refl e }
      where
        whole : (l : List A) (rest : List ℕ) → (1 ≤ length l) × (length l ≤ k) × Each S l → F rest × (f rest ≡ None) → on (several k f (each w l ++ rest)) found_some ≡ found l rest
        whole [] rest small follows = absurd (omega arith)
        whole (a ∷ l) rest small follows = rw (all k (a ∷ l) rest small.1 small.2 follows.0 follows.1) refl

        go : (s : List ℕ) (l : List A) (rest : List ℕ) (o : Found (List A)) → several k f s ≡ o → on o found_some ≡ found l rest
            → ((1 ≤ length l) × (length l ≤ k) × Each S l) × (s ≡ each w l ++ rest)
        go s l rest None e q = differ l rest q
        go s l rest (Some ([], r)) e q = differ l rest q
        go s l rest (Some ((a ∷ m), r)) e q =
            let is : a ∷ m ≡ l = same_value q in
            let ((few, small), here) = parts k s l rest (e ∙ q) in
            let some : 1 ≤ length l = omega (arith, ap length is) in
            ((some, few, small), here)

-- ---- the same format, said in other words

module _ {A : Type 0} {S S' : A → Type 0} {F F' : List ℕ → Type 0} {w w' : A → List ℕ} {f : Reader A} where
  pub format_as : ((a : A) → S' a → S a) → ((a : A) → S a → S' a) → ((rest : List ℕ) → F' rest → F rest) → ((a : A) → w' a ≡ w a) → Format S F w f → Format S' F' w' f
  format_as down up narrow same of =
      record {
        complete = λ a rest small follows. rw (same a) (of.complete a rest (down a small) (narrow rest follows));
        sound = λ s a rest e. let (small, is) = of.sound s a rest e in (up a small, rw (same a) is);
      }

-- ---- fixed bytes before or after a value; a value or no bytes

module _ {A : Type 0} {S : A → Type 0} {F : List ℕ → Type 0} {w : A → List ℕ} {f : Reader A} where
  pub format_before : (x : List ℕ) → Format S F w f → Format S F (λ a. x ++ w a) (before x f)
  format_before x of =
      format_as (λ a small. (tt, small)) (λ a small. small.1) (λ rest follows. follows) (λ a. refl)
      (format_changed (λ p. p.1) (λ a. (tt, a)) (λ b. refl) (λ p. refl) (format_sequence (format_fixed x) of (λ b rest small follows. tt)))

  pub format_closed : (x : List ℕ) → ((rest : List ℕ) → F (x ++ rest)) → Format S F w f → Format S Always (λ a. w a ++ x) (closed f x)
  format_closed x ends of =
      format_as (λ a small. (small, tt)) (λ a small. small.0) (λ rest follows. follows) (λ a. refl)
      (format_changed (λ p. p.0) (λ a. (a, tt)) (λ b. refl) (λ p. refl) (format_sequence of (format_fixed x) (λ b rest small follows. ends rest)))

-- what is written where nothing is: no bytes
module _ {A C : Type 0} {S : C → Type 0} {w : C → List ℕ} {F : List ℕ → Type 0} {f : Reader A} (h : A → C) (none : C) (kinds : Kinds h (λ (u : Unit {0}). none)) where
  pub format_optional : S none → w none ≡ [] → Format (λ a. S (h a)) F (λ a. w (h a)) f → Format S (λ rest. F rest × (f rest ≡ None)) w (optional h none f)
  format_optional small is of =
      format_one_of h (λ u. none) kinds of
      (format_as (λ u s. tt) (λ u s. small) (λ rest follows. follows) (λ u. is) (format_empty (λ rest. f rest ≡ None)))
      (λ u rest s follows. rw is follows)

-- ---- a whole text: it spells a value, or none

pub data Whole {A B : Type 0} (Spells : A → Type 0) (k : A → B) (other : B) : B → Type 0 where
  spelt : (a : A) → Spells a → Whole Spells k other (k a)
  unspelt : ((a : A) → Spells a → ⊥) → Whole Spells k other other

module _ {A B : Type 0} {Spells : A → Type 0} {k : A → B} {other : B} where
  pub none_whole : (o : B) → Whole Spells k other o → ((a : A) → Spells a → ⊥) → o ≡ other
  none_whole _ (spelt a is) without = absurd (without a is)
  none_whole _ (unspelt none) without = refl

  module _ (apart : (a : A) → k a ≡ other → ⊥) where
    pub whole_none : (o : B) → Whole Spells k other o → o ≡ other → (a : A) → Spells a → ⊥
    whole_none _ (spelt a is) e = absurd (apart a e)
    whole_none _ (unspelt none) e = none

    pub whole_spells : ((a a' : A) → k a ≡ k a' → a ≡ a') → (o : B) → Whole Spells k other o → (a : A) → o ≡ k a → Spells a
    whole_spells same _ (spelt a is) a' e = subst (λ (x : A). Spells x) (same a a' e) is
    whole_spells same _ (unspelt none) a' e = absurd (apart a' (sym e))

module _ {A : Type 0} {S : A → Type 0} {F : List ℕ → Type 0} {w : A → List ℕ} {f : Reader A} (of : Format S F w f) (end : F []) where
  pub read_whole : (a : A) (l : List ℕ) → S a → l ≡ w a → f l ≡ found a []
  read_whole a l small is = ap f (is ∙ sym (append-nil (w a))) ∙ of.complete a [] small end

  pub format_whole : {B : Type 0} (k : A → B) (other : B) (l : List ℕ) → Whole (λ a. S a × (l ≡ w a)) k other (whole k other (f l))
  format_whole {B} k other l = go (f l) refl
    where
      go : (o : Found A) → f l ≡ o → Whole (λ a. S a × (l ≡ w a)) k other (whole k other o)
      go None e = unspelt (λ a is. differ a [] (sym e ∙ read_whole a l is.0 is.1))
      go (Some (a, [])) e = let (small, is) = of.sound l a [] e in spelt a (small, is ∙ append-nil (w a))
      go (Some (a, (b ∷ rest))) e =
          unspelt (λ a' is.
          let same : ◌≡◌ {A = Found A} (found a (b ∷ rest)) (found a' []) = sym e ∙ read_whole a' l is.0 is.1 in
          let z : b ∷ rest ≡ [] = same_rest same in
          let z : ◌≡◌ {A = ℕ} 0 1 = cc in
          omega arith)

-- ---- a whole text that means another value than it spells, as a missing number that means 0

module _ {A B C : Type 0} {Spells : A → Type 0} {Means : B → Type 0} (h : A → B) (k : B → C) (other : C) where
  pub whole_means : ((a : A) → Spells a → Means (h a)) → ((b : B) → Means b → (a : A) × Spells a) → (o : C) → Whole Spells (λ a. k (h a)) other o → Whole Means k other o
  whole_means up down _ (spelt a is) = spelt (h a) (up a is)
  whole_means up down _ (unspelt none) = unspelt (λ b is. let (a, is') = down b is in none a is')

-- Readers: each finds a value at the start of a list of bytes, and the bytes after it. They are composed as the text is.
-- Nobody has to believe this: proofs/Formats.antt says what a reader finds, in terms of the text that is written.
use Rattle.std.specs.Prelude.{ℕ, zero, suc, Bool, true, false, List, [], ◌∷◌, Option, Some, None, length, drop, eqb}
use Rattle.algebra.specs.Choice.{pick}
use Rattle.text.specs.Slices.{up_to}
use Rattle.word.specs.Words.{ends_word}
use Rattle.word.specs.Numbers.{number_of}

-- a value and the bytes after it, or nothing
abbrev pub Found : Type 0 → Type 0
Found A = Option (A × List ℕ)

abbrev pub found : {A : Type 0} → A → List ℕ → Found A
found a rest = Some (a, rest)

abbrev pub Reader : Type 0 → Type 0
Reader A = List ℕ → Found A

-- go on with what was found
abbrev pub on : {A B : Type 0} → Found A → (A → List ℕ → Found B) → Found B
on None k = None
on (Some p) k = k p.0 p.1

-- the first, or where it found nothing the second
abbrev pub or_else : {A C : Type 0} → Found A → (A → List ℕ → Found C) → Found C → Found C
or_else None k other = other
or_else (Some p) k other = k p.0 p.1

-- whether the bytes w stand at the start of s
unfoldable pub starts_with : List ℕ → List ℕ → Bool
starts_with [] s = true
starts_with (b ∷ w) [] = false
starts_with (b ∷ w) (c ∷ s) = pick (eqb b c) (starts_with w s) false

-- ---- the parts

-- the bytes w
unfoldable pub fixed : List ℕ → Reader (Unit {0})
fixed w s = pick (starts_with w s) (found tt (drop (length w) s)) None

-- no bytes
unfoldable pub empty : Reader (Unit {0})
empty s = found tt s

abbrev pub number_found : Option ℕ → List ℕ → Found ℕ
number_found None rest = None
number_found (Some n) rest = found n rest

-- a number of at most 7 digits, up to a space, a parenthesis or the end
unfoldable pub number : Reader ℕ
number s = number_found (number_of (up_to ends_word s)) (drop (length (up_to ends_word s)) s)

-- ---- their composition

-- one after the other
unfoldable pub sequence : {A B : Type 0} → Reader A → Reader B → Reader (A × B)
sequence f g s = on (f s) (λ a rest. on (g rest) (λ b rest'. found (a, b) rest'))

-- the same text, for another value
unfoldable pub changed : {A B : Type 0} → (A → B) → Reader A → Reader B
changed h f s = on (f s) (λ a rest. found (h a) rest)

-- one of two kinds of a value: the first, or the second where the first finds nothing
unfoldable pub one_of : {A B C : Type 0} → (A → C) → (B → C) → Reader A → Reader B → Reader C
one_of h k f g s = or_else (f s) (λ a rest. found (h a) rest) (on (g s) (λ b rest. found (k b) rest))

-- values one after the other: as many as are there, and at most k
unfoldable pub several : {A : Type 0} → ℕ → Reader A → Reader (List A)
several zero f s = found [] s
several (suc k) f s = or_else (f s) (λ a rest. on (several k f rest) (λ l rest'. found (a ∷ l) rest')) (found [] s)

-- what was found, where it is not empty
abbrev pub found_some : {A : Type 0} → List A → List ℕ → Found (List A)
found_some [] rest = None
found_some (a ∷ l) rest = found (a ∷ l) rest

-- the same, and at least one of them
unfoldable pub one_to : {A : Type 0} → ℕ → Reader A → Reader (List A)
one_to k f s = on (several k f s) found_some

-- the bytes w, and then a value
abbrev pub before : {A : Type 0} → List ℕ → Reader A → Reader A
before w f = changed (λ p. p.1) (sequence (fixed w) f)

-- a value, and then the bytes w
abbrev pub closed : {A : Type 0} → Reader A → List ℕ → Reader A
closed f w = changed (λ p. p.0) (sequence f (fixed w))

-- a value, or no bytes
abbrev pub optional : {A C : Type 0} → (A → C) → C → Reader A → Reader C
optional h none f = one_of h (λ u. none) f empty

-- ---- a whole text

-- k of the value, where nothing is left after it
abbrev pub whole : {A B : Type 0} → (A → B) → B → Found A → B
whole k other None = other
whole k other (Some (a, [])) = k a
whole k other (Some (a, b ∷ rest)) = other

-- The lines of a listing, cut as the lines of a sheet are: those for the answers, and the total line.
-- Assumes nothing.
use mathlib.Core.Path.{◌≡◌, refl, sym, ap, ◌∙◌}
use Prim.Native.Nat.{ℕ, zero, suc, ◌+◌, ◌/◌, ◌%◌, ◌<◌}
use native.Mathlib.Omega.{arith}
use mathlib.Core.Bool.{Bool, true, false}
use mathlib.Core.List.{List, [], ◌∷◌, ◌++◌, append_assoc, append-nil}
use lib.ListN.{length, get_or}
use lib.Dec.{ltb}
use borrow.Author.Tests.{ne_eqb}
use Rattle.text.specs.Bytes.{ascii, digits, decimal, spaced, is_newline, on_first, lines}
use Rattle.algebra.specs.Choice.{pick}
use Rattle.std.specs.Prelude.{Ok, Err}
use Rattle.answer.specs.Answers.{Answer, refusal_number}
use Rattle.answer.specs.declared.Verdict.{Verdict}
use Rattle.answer.specs.declared.Verdict.TheVariants.{Holds, Fails, Open}
use Rattle.listing.specs.declared.Counts.{Counts}
use Rattle.listing.specs.Listing.{verdict_word, said, entry, entries, counts, total, ended, joined, listing_of}

-- ---- bytes without a newline

unfoldable pub plain : List ℕ → Bool
plain [] = true
plain (b ∷ l) = pick (is_newline b) false (plain l)

pub plain_append : (xs ys : List ℕ) → plain xs ≡ true → plain ys ≡ true → plain (xs ++ ys) ≡ true
unfolding plain
plain_append [] ys hx hy = hy
plain_append (x ∷ xs) ys hx hy = go (is_newline x) refl (λ h. plain_append xs ys h hy)
  where
    go : (t : Bool) → is_newline x ≡ t → (plain xs ≡ true → plain (xs ++ ys) ≡ true) → pick (is_newline x) false (plain (xs ++ ys)) ≡ true
    go true e more = absurd (let z : ◌≡◌ {A = Bool} false true = rw e at hx in let y : ◌≡◌ {A = ℕ} 0 1 = cc in omega arith)
    go false e more = rw e (more (rw e at hx))

-- a line with its newline before other bytes is cut off as a line
pub lines_ended : (l s : List ℕ) → plain l ≡ true → lines (ended l ++ s) ≡ l ∷ lines s
unfolding plain lines on_first
lines_ended [] s h = refl
lines_ended (b ∷ l) s h = go (is_newline b) refl (lines_ended l s)
  where
    go : (t : Bool) → is_newline b ≡ t → (plain l ≡ true → lines (ended l ++ s) ≡ l ∷ lines s) → pick (is_newline b) ([] ∷ lines (ended l ++ s)) (on_first b (lines (ended l ++ s))) ≡ (b ∷ l) ∷ lines s
    go true e more = absurd (let z : ◌≡◌ {A = Bool} false true = rw e at h in let y : ◌≡◌ {A = ℕ} 0 1 = cc in omega arith)
    go false e more = rw e (ap (on_first b) (more (rw e at h)))

digit_plain : (n : ℕ) → plain ((48 + n) ∷ []) ≡ true
unfolding plain
digit_plain n = rw (ne_eqb (48 + n) 10 (λ e. omega arith)) refl

digits_plain : (steps n : ℕ) → plain (digits steps n) ≡ true
unfolding digits
digits_plain zero n = digit_plain n
digits_plain (suc steps) n = go (ltb n 10) (digits_plain steps (n / 10))
  where
    go : (t : Bool) → plain (digits steps (n / 10)) ≡ true → plain (pick t ((48 + n) ∷ []) (digits steps (n / 10) ++ ((48 + n % 10) ∷ []))) ≡ true
    go true more = digit_plain n
    go false more = plain_append (digits steps (n / 10)) _ more (digit_plain (n % 10))

pub decimal_plain : (n : ℕ) → plain (decimal n) ≡ true
unfolding decimal
decimal_plain n = digits_plain n n

word_plain : (v : Verdict) → plain (verdict_word v) ≡ true
unfolding plain
word_plain Holds = refl
word_plain Fails = refl
word_plain Open = refl

said_plain : (a : Answer) → plain (said a) ≡ true
unfolding plain
said_plain (Ok j) = plain_append (ascii " " ++ verdict_word j.verdict) (ascii ")") (plain_append (ascii " ") (verdict_word j.verdict) refl (word_plain j.verdict)) refl
said_plain (Err r) =
    let n = refusal_number r in
    plain_append (ascii " refused " ++ decimal n) (ascii ")") (plain_append (ascii " refused ") (decimal n) refl (decimal_plain n)) refl

entry_plain : (k : ℕ) (a : Answer) → plain (entry k a) ≡ true
unfolding entry plain
entry_plain k a = plain_append (ascii "(" ++ decimal k) (said a) (plain_append (ascii "(") (decimal k) refl (decimal_plain k)) (said_plain a)

spaced_plain : (xs : List ℕ) (n : ℕ) → plain xs ≡ true → plain (xs ++ spaced n) ≡ true
unfolding plain
spaced_plain xs n h = plain_append xs (spaced n) h (plain_append (ascii " ") (decimal n) refl (decimal_plain n))

total_plain : (c : Counts) → plain (total c) ≡ true
unfolding total plain
total_plain c =
    let a0 : List ℕ = ascii "(total" in
    let a1 : List ℕ = a0 ++ spaced c.lines in
    let a2 : List ℕ = a1 ++ spaced c.holds in
    let a3 : List ℕ = a2 ++ spaced c.fails in
    let a4 : List ℕ = a3 ++ spaced c.opens in
    let h2 : plain a2 ≡ true = spaced_plain a1 c.holds (spaced_plain a0 c.lines refl) in
    let h4 : plain a4 ≡ true = spaced_plain a3 c.opens (spaced_plain a2 c.fails h2) in
    plain_append (a4 ++ spaced c.refused) (ascii ")") (spaced_plain a4 c.refused h4) refl

-- ---- the lines of a listing

lines_joined : (k : ℕ) (xs : List Answer) (s : List ℕ) → lines (joined (entries k xs) ++ s) ≡ entries k xs ++ lines s
unfolding joined entries
lines_joined k [] s = refl
lines_joined k (a ∷ xs) s =
    ap lines (append_assoc (ended (entry k a)) (joined (entries (k + 1) xs)) s)
    ∙ lines_ended (entry k a) (joined (entries (k + 1) xs) ++ s) (entry_plain k a)
    ∙ ap (λ (ls : List (List ℕ)). entry k a ∷ ls) (lines_joined (k + 1) xs s)

-- the lines of a listing are those for the answers, counted from 1, and the total line
pub listing_lines : (xs : List Answer) → lines (listing_of xs) ≡ entries 1 xs ++ (total (counts xs) ∷ [])
unfolding listing_of lines
listing_lines xs =
    lines_joined 1 xs (ended (total (counts xs)))
    ∙ ap (λ (ls : List (List ℕ)). entries 1 xs ++ ls) (whole (total (counts xs)) (total_plain (counts xs)))
  where
    whole : (l : List ℕ) → plain l ≡ true → lines (ended l) ≡ l ∷ []
    whole l h = ap lines (sym (append-nil (ended l))) ∙ lines_ended l [] h

-- as many lines for answers as answers
pub entries_length : (k : ℕ) (xs : List Answer) → length (entries k xs) ≡ length xs
unfolding entries
entries_length k [] = refl
entries_length k (a ∷ xs) = ap suc (entries_length (k + 1) xs)

-- the line at a place is the line for the answer at that place
pub entries_at : (k : ℕ) (xs : List Answer) (i : ℕ) (l : List ℕ) (a : Answer) → i < length xs → get_or (entries k xs) i l ≡ entry (k + i) (get_or xs i a)
unfolding entries
entries_at k [] i l a h = absurd (omega arith)
entries_at k (x ∷ xs) zero l a h = ap (λ (n : ℕ). entry n x) (omega arith)
entries_at k (x ∷ xs) (suc i) l a h =
    entries_at (k + 1) xs i l a (omega arith) ∙ ap (λ (n : ℕ). entry n (get_or xs i a)) (omega arith)

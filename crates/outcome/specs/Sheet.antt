-- SCOPE 9.4 to 9.9, 10.1 to 10.3, 11.3 and 11.4: the answers to the lines of a sheet by a rule, their listing, and what a sheet that is turned
-- back gives.
use Rattle.std.specs.Prelude.{ℕ, ◌+◌, ◌*◌, List, [], ◌∷◌, map, length, get_or, leb, Result, Ok, Err}
use Rattle.text.specs.Bytes.{lines}
use Rattle.answer.specs.declared.Refusal.{Refusal}
use Rattle.answer.specs.Answers.{Answer}
use Rattle.answer.specs.Checks.{Check, check}
use Rattle.listing.specs.Listing.{counts, no_counts, listing_of}
use Rattle.outcome.specs.declared.Listed.{Listed}
use Rattle.outcome.specs.declared.TurnedBack.{TurnedBack}

-- line k of a sheet, counted from 0
abbrev pub line_at : List ℕ → ℕ → List ℕ
line_at sheet k = get_or (lines sheet) k []

-- the answers to the lines of a sheet, each from its line's bytes alone
abbrev pub answers_by : (List ℕ → Answer) → List ℕ → List Answer
answers_by rule sheet = map rule (lines sheet)

-- the listing of these answers
unfoldable pub listing_by : (List ℕ → Answer) → List ℕ → List ℕ
listing_by rule sheet = listing_of (answers_by rule sheet)

-- ---- the checks of a sheet

-- 1: over 65,535 bytes
abbrev pub size_check : List ℕ → Check
size_check sheet = check Refusal.SheetBytes (leb (length sheet) 65535)

-- 2: over 1,024 lines
abbrev pub lines_check : List ℕ → Check
lines_check sheet = check Refusal.SheetLines (leb (length (lines sheet)) 1024)

-- 3: a listing buffer under 24 × lines + 40 bytes
abbrev pub room_check : List ℕ → ℕ → Check
room_check sheet room = check Refusal.ListingRoom (leb (24 * length (lines sheet) + 40) room)

abbrev pub sheet_checks : List ℕ → ℕ → List Check
sheet_checks sheet room = size_check sheet ∷ lines_check sheet ∷ room_check sheet room ∷ []

-- ---- what is returned

-- what is said of a listing, or of a sheet that is turned back
abbrev pub Outcome : Type 0
Outcome = Result Listed TurnedBack

-- of a sheet that is turned back by r: that it is r, counts of 0 and a length of 0
abbrev pub turned_back_by : Refusal → TurnedBack
turned_back_by r = record { refusal = r; counts = no_counts; length = 0 }

abbrev pub turned_back : Refusal → Outcome
turned_back r = Err (turned_back_by r)

-- of a sheet that is listed: how many answers there are of each kind, and the length of the listing
abbrev pub listed_by : (List ℕ → Answer) → List ℕ → Listed
listed_by rule sheet = record { counts = counts (answers_by rule sheet); length = length (listing_by rule sheet) }

-- the length that is returned, of a listing or of a sheet that is turned back
abbrev pub length_of : Outcome → ℕ
length_of (Ok w) = w.length
length_of (Err t) = t.length

-- Demand 3 (SCOPE 9.3), proved of `outcome`, and so, by its contract, of `run`.
-- Assumes nothing.
use mathlib.Core.Path.{◌≡◌, refl, sym, ap, ◌∙◌, subst}
use Prim.Native.Nat.{ℕ, ◌+◌, ◌*◌, ◌≤◌, ◌<◌, zero-le}
use native.Mathlib.Omega.{arith}
use mathlib.Core.Bool.{true}
use mathlib.Core.Logic.{◌↔◌, ◌⊎◌, inl, inr}
use mathlib.Core.List.{List, [], ◌∷◌, ◌++◌, map}
use lib.ListN.{length, get_or, take, drop, length-append, length-map, length-drop, get_or-append, get_or-map}
use lib.Seq.{get_or_at, take_at}
use borrow.Author.Tests.{leb-true, leb-false}
use Rattle.pressure.specs.declared.Order.TheVariants.{PressureFirst}
use Rattle.text.specs.Bytes.{ascii, digits, decimal, lines, lacks_newline}
use Rattle.text.proofs.Laws.{lines_final}
use Rattle.std.specs.Prelude.{Ok, Err, IsErrAnd}
use Rattle.std.proofs.lemmas.Result.{err_from_is_err_and}
use Rattle.answer.specs.declared.Refusal.{Refusal}
use Rattle.answer.specs.Answers.{Answer}
use Rattle.answer.specs.Checks.{FirstBroken, AllPassed}
use Rattle.answer.proofs.Checks.{first_or_lem, first_broken, all_passed}
use Rattle.reading.proofs.Answers.{answer_right, line_means}
use Rattle.reading.proofs.OwnLines.{by_own_lines}
use Rattle.listing.specs.declared.Counts.{Counts}
use Rattle.listing.specs.Listing.{entry, entries, count, counts, total, joined, listing_of}
use Rattle.listing.proofs.Totals.{count_sum}
use Rattle.listing.proofs.Lines.{listing_lines, entries_length, entries_at}
use Rattle.outcome.specs.declared.Listed.{Listed}
use Rattle.outcome.specs.declared.TurnedBack.{TurnedBack}
use Rattle.outcome.specs.Sheet.{line_at, answers_by, listing_by, sheet_checks, Outcome, turned_back_by, turned_back, listed_by, length_of}
use Rattle.outcome.specs.Running.{ruled, listing, outcome}
use Rattle.outcome.specs.Demand3.{Run, turned, listed, written, ReadBack, Demand3}
use Rattle.outcome.proofs.Laws.{sheet_room, accepted}

-- ---- the listing by a rule, cut into lines

module _ (rule : List ℕ → Answer) (sheet : List ℕ) where
  answers_count : length (answers_by rule sheet) ≡ length (lines sheet)
  answers_count = length-map (lines sheet) rule

  listing_cut : lines (listing_by rule sheet) ≡ entries 1 (answers_by rule sheet) ++ (total (counts (answers_by rule sheet)) ∷ [])
  unfolding listing_by
  listing_cut = listing_lines (answers_by rule sheet)

  listing_count : length (lines (listing_by rule sheet)) ≡ length (lines sheet) + 1
  listing_count =
      ap length listing_cut ∙ length-append (entries 1 (answers_by rule sheet)) _ ∙ omega (arith, entries_length 1 (answers_by rule sheet), answers_count)

  listing_at : (k : ℕ) → k < length (lines sheet) → line_at (listing_by rule sheet) k ≡ entry (k + 1) (rule (line_at sheet k))
  listing_at k h =
      ap (λ (ls : List (List ℕ)). get_or ls k []) listing_cut
      ∙ get_or-append (entries 1 (answers_by rule sheet)) _ [] k (omega (arith, entries_length 1 (answers_by rule sheet), answers_count))
      ∙ entries_at 1 (answers_by rule sheet) k [] (rule []) (omega (arith, answers_count))
      ∙ ap (λ (n : ℕ). entry n (get_or (answers_by rule sheet) k (rule []))) (omega arith)
      ∙ ap (entry (k + 1)) (get_or-map rule (lines sheet) k [])

  listing_last : line_at (listing_by rule sheet) (length (lines sheet)) ≡ total (counts (answers_by rule sheet))
  listing_last =
      ap (λ (ls : List (List ℕ)). get_or ls (length (lines sheet)) []) listing_cut
      ∙ get_or_at (entries 1 (answers_by rule sheet)) _ [] [] (length (lines sheet)) (entries_length 1 (answers_by rule sheet) ∙ answers_count)

  -- with the last newline and without it
  pub final_listing : lacks_newline sheet ≡ true → listing_by rule (sheet ++ (10 ∷ [])) ≡ listing_by rule sheet
  unfolding listing_by
  final_listing h = ap (λ (ls : List (List ℕ)). listing_of (map rule ls)) (lines_final sheet h)

  pub final_listed : lacks_newline sheet ≡ true → listed_by rule (sheet ++ (10 ∷ [])) ≡ listed_by rule sheet
  unfolding listing_by
  final_listed h =
      ap (λ (ls : List (List ℕ)). record { counts = counts (map rule ls); length = length (listing_of (map rule ls)) }) (lines_final sheet h)

  pub empty_listing : sheet ≡ [] → listing_by rule sheet ≡ ascii "(total 0 0 0 0 0)\n"
  unfolding listing_by listing_of lines entries joined total count decimal digits
  empty_listing e = rw e refl

-- ---- a run by a rule that was not turned back

module _ (rule : List ℕ → Answer) (sheet out : List ℕ) (r : Outcome) (out' : List ℕ) (run : Run rule sheet out r out') (w : Listed) (z : r ≡ Ok w) where
  run_listed : AllPassed (sheet_checks sheet (length out)) × ((w ≡ listed_by rule sheet) × (out' ≡ listing_by rule sheet ++ drop (length (listing_by rule sheet)) out))
  run_listed = go run
    where
      go : Run rule sheet out r out' →
          AllPassed (sheet_checks sheet (length out)) × ((w ≡ listed_by rule sheet) × (out' ≡ listing_by rule sheet ++ drop (length (listing_by rule sheet)) out))
      go (turned n f e o) = cc
      go (listed all e o) = (all, (cc, o))

  pub run_written : written w out' ≡ listing_by rule sheet
  run_written =
      let (all, (e, o)) = run_listed in
      (λ i. take (e i).length (o i)) ∙ take_at (listing_by rule sheet) _ (length (listing_by rule sheet)) refl

  abbrev Lines : List ℕ → Type 0
  Lines l =
      (length (lines l) ≡ length (lines sheet) + 1) × (((k : ℕ) → k < length (lines sheet) → line_at l k ≡ entry (k + 1) (rule (line_at sheet k)))
      × (line_at l (length (lines sheet)) ≡ total (counts (answers_by rule sheet))))

  run_lines : Lines (written w out')
  run_lines = subst Lines (sym run_written) (listing_count rule sheet, (listing_at rule sheet, listing_last rule sheet))

  -- the listing has room in the buffer, if a right rule gives the answers
  pub run_read_back : length (listing_by rule sheet) ≤ length out → ReadBack rule sheet out w out'
  run_read_back room =
      let (all, (e, o)) = run_listed in
      let n = length (listing_by rule sheet) in
      let size : length out' ≡ length out = ap length o ∙ length-append (listing_by rule sheet) (drop n out) ∙ omega (arith, length-drop n out) in
      let counted : w.counts ≡ counts (answers_by rule sheet) = ap (λ (q : Listed). q.counts) e in
      record {
        fits = omega (arith, ap (λ (q : Listed). q.length) e);
        same_size = size;
        line_count = run_lines.0;
        line_at_lem = run_lines.1.0;
        last = run_lines.1.1 ∙ ap total (sym counted);
        lines_are = ap (λ (q : Counts). q.lines) counted ∙ answers_count rule sheet;
        counted_once = subst (λ (q : Counts). q.lines ≡ q.holds + q.fails + q.opens + q.refused) (sym counted) (count_sum (answers_by rule sheet));
      }

-- ---- demand 3

module _ (sheet out : List ℕ) where
  broken_outcome : (n : Refusal) → FirstBroken (sheet_checks sheet (length out)) n → outcome sheet out ≡ (turned_back n, out)
  unfolding outcome
  broken_outcome n f =
      first_broken (λ m. (turned_back m, out)) (Ok (listed_by ruled sheet), listing sheet ++ drop (length (listing sheet)) out) (sheet_checks sheet (length out)) n f

  passed_outcome : AllPassed (sheet_checks sheet (length out)) → outcome sheet out ≡ (Ok (listed_by ruled sheet), listing sheet ++ drop (length (listing sheet)) out)
  unfolding outcome
  passed_outcome all =
      all_passed (λ m. (turned_back m, out)) (Ok (listed_by ruled sheet), listing sheet ++ drop (length (listing sheet)) out) (sheet_checks sheet (length out)) all

run_right : (sheet out : List ℕ) → Run ruled sheet out (outcome sheet out).0 (outcome sheet out).1
unfolding outcome
run_right sheet out = go (first_or_lem (λ n. (turned_back n, out)) (Ok (listed_by ruled sheet), listing sheet ++ drop (length (listing sheet)) out) (sheet_checks sheet (length out)))
  where
    by : (r : Outcome × List ℕ) → outcome sheet out ≡ r → Run ruled sheet out r.0 r.1 → Run ruled sheet out (outcome sheet out).0 (outcome sheet out).1
    by r e d = subst (λ (q : Outcome × List ℕ). Run ruled sheet out q.0 q.1) (sym e) d

    go : ((n : Refusal) × (FirstBroken (sheet_checks sheet (length out)) n × (outcome sheet out ≡ (turned_back n, out))))
        ⊎ (AllPassed (sheet_checks sheet (length out)) × (outcome sheet out ≡ (Ok (listed_by ruled sheet), listing sheet ++ drop (length (listing sheet)) out)))
        → Run ruled sheet out (outcome sheet out).0 (outcome sheet out).1
    go (inl (n, (f, e))) = by (turned_back n, out) e (turned n f refl refl)
    go (inr (all, e)) = by (Ok (listed_by ruled sheet), listing sheet ++ drop (length (listing sheet)) out) e (listed all refl refl)

-- whatever run meets `Run` by the program's rule meets the demand
pub demand_by : (sheet out out' : List ℕ) (r : Outcome) → Run ruled sheet out r out' → Demand3 ruled sheet out r out'
demand_by sheet out out' r run =
    record {
      run = run;
      right = answer_right PressureFirst;
      verdict_means = λ l j e. line_means PressureFirst l (ruled l) (answer_right PressureFirst l) j e;
      own_lines = by_own_lines PressureFirst;
      read_back = λ w z.
          let a = accepted sheet (length out) (run_listed ruled sheet out r out' run w z).0 in
          run_read_back ruled sheet out r out' run w z (omega (arith, sheet_room sheet a.few, a.enough));
      same_answer = λ sheet₂ out₂ out₂' r₂ run₂ w w₂ z z₂ k m h h₂ e. (
        ruled (line_at sheet k),
        (
          (run_lines ruled sheet out r out' run w z).1.0 k h,
          (run_lines ruled sheet₂ out₂ r₂ out₂' run₂ w₂ z₂).1.0 m h₂ ∙ ap (λ (l : List ℕ). entry (m + 1) (ruled l)) (sym e),
        ),
      );
      final_newline = λ lacks out₂ out₂' r₂ run₂ w w₂ z z₂. (
        (run_listed ruled (sheet ++ (10 ∷ [])) out₂ r₂ out₂' run₂ w₂ z₂).1.0 ∙ final_listed ruled sheet lacks ∙ sym (run_listed ruled sheet out r out' run w z).1.0,
        run_written ruled (sheet ++ (10 ∷ [])) out₂ r₂ out₂' run₂ w₂ z₂ ∙ final_listing ruled sheet lacks ∙ sym (run_written ruled sheet out r out' run w z),
      );
      empty_sheet = λ e w z. run_written ruled sheet out r out' run w z ∙ empty_listing ruled sheet e;
    }

pub demand_3 : (sheet out : List ℕ) → Demand3 ruled sheet out (outcome sheet out).0 (outcome sheet out).1
demand_3 sheet out = demand_by sheet out _ _ (run_right sheet out)

-- for the code
pub demand_of : (sheet out out' : List ℕ) (r : Outcome) → ◌≡◌ {A = Outcome × List ℕ} (r, out') (outcome sheet out) → Demand3 ruled sheet out r out'
demand_of sheet out out' r e = subst (λ (q : Outcome × List ℕ). Demand3 ruled sheet out q.0 q.1) (sym e) (demand_3 sheet out)

-- ---- SCOPE 9.1: a refusal where its condition is met, and only there

module _ (sheet out : List ℕ) where
  -- a refusal is returned exactly if its check is the first broken
  pub returned_broken : (e : Refusal) → IsErrAnd (outcome sheet out).0 (λ t. t.refusal ≡ e) ↔ FirstBroken (sheet_checks sheet (length out)) e
  returned_broken e = (
    λ is. let (t, r, same) = err_from_is_err_and (outcome sheet out).0 is in rw (← same) (by (run_right sheet out) t r),
    λ f. subst (λ (q : Outcome × List ℕ). IsErrAnd q.0 (λ t. t.refusal ≡ e)) (sym (broken_outcome sheet out e f)) refl,
  )
    where
      by : Run ruled sheet out (outcome sheet out).0 (outcome sheet out).1 → (t : TurnedBack) → (outcome sheet out).0 ≡ Err t → FirstBroken (sheet_checks sheet (length out)) t.refusal
      by (turned m f r o) t is = let same : turned_back_by m ≡ t = cc in rw (← same) f
      by (listed all l o) t is = cc

  -- SCOPE 11.4: and with it counts of 0 and a length of 0
  pub returned_nothing : (t : TurnedBack) → (outcome sheet out).0 ≡ Err t → t ≡ turned_back_by t.refusal
  returned_nothing t is = by (run_right sheet out)
    where
      by : Run ruled sheet out (outcome sheet out).0 (outcome sheet out).1 → t ≡ turned_back_by t.refusal
      by (turned m f r o) = let same : turned_back_by m ≡ t = cc in rw (← same) refl
      by (listed all l o) = cc

  -- a listing is returned exactly if none is broken
  pub returned_passed : ((w : Listed) × ((outcome sheet out).0 ≡ Ok w)) ↔ AllPassed (sheet_checks sheet (length out))
  returned_passed = (λ (w, is). by (run_right sheet out) w is, λ all. (listed_by ruled sheet, ap (λ (q : Outcome × List ℕ). q.0) (passed_outcome sheet out all)))
    where
      by : Run ruled sheet out (outcome sheet out).0 (outcome sheet out).1 → (w : Listed) → (outcome sheet out).0 ≡ Ok w → AllPassed (sheet_checks sheet (length out))
      by (turned m f r o) w is = cc
      by (listed all l o) w is = all

  -- SCOPE 10.1 to 10.3: a sheet that is turned back leaves the buffer as it was
  pub untouched : (t : TurnedBack) → (outcome sheet out).0 ≡ Err t → (outcome sheet out).1 ≡ out
  untouched t is = by (run_right sheet out)
    where
      by : Run ruled sheet out (outcome sheet out).0 (outcome sheet out).1 → (outcome sheet out).1 ≡ out
      by (turned m f r o) = o
      by (listed all l o) = cc

-- a buffer of 24 × 1,024 + 40 bytes is long enough for every sheet
pub room_enough : (sheet out : List ℕ) → 24616 ≤ length out → IsErrAnd (outcome sheet out).0 (λ t. t.refusal ≡ Refusal.ListingRoom) → ⊥
room_enough sheet out h e = no ((returned_broken sheet out Refusal.ListingRoom).0 e)
  where
    no : FirstBroken (sheet_checks sheet (length out)) Refusal.ListingRoom → ⊥
    no (inl (f, is)) = cc
    no (inr (t, inl (f, is))) = cc
    no (inr (t, inr (few, inl (f, is)))) = omega (arith, leb-true (length (lines sheet)) 1024 few, leb-false (24 * length (lines sheet) + 40) (length out) f)
    no (inr (t, inr (few, inr (u, none)))) = none

-- the returned length is within the buffer, for whoever prints so many of its bytes
pub length_fits : (rule : List ℕ → Answer) (sheet out out' : List ℕ) (r : Outcome) → Demand3 rule sheet out r out' → length_of r ≤ length out'
length_fits rule sheet out out' r d = by d.run
  where
    by : Run rule sheet out r out' → length_of r ≤ length out'
    by (turned n f t o) = rw t zero-le
    by (listed all t o) = rw t ((d.read_back (listed_by rule sheet) t).fits)

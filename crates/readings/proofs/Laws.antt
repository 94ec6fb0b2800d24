-- The loop over the lines of a sheet, the room that its rows take, and the run: what `comparison` gives is what is laid down. Assumes nothing.
use mathlib.Core.Path.{◌≡◌, refl, sym, ap, ◌∙◌, subst}
use mathlib.Core.Logic.{◌⊎◌, inl, inr}
use mathlib.Core.List.{List, [], ◌∷◌, ◌++◌, append_assoc, append-nil}
use Prim.Native.Nat.{ℕ, ◌+◌, ◌*◌, ◌≤◌, ◌<◌, zero-le}
use native.Mathlib.Omega.{arith}
use lib.ListN.{length, drop, length-append}
use lib.Dec.{eqb, lit≤}
use borrow.Author.Tests.{eq-eqb}
use Rattle.std.specs.Prelude.{Result, Ok, Err, Option, None, Some}
use Rattle.text.specs.Bytes.{decimal, lines}
use Rattle.text.specs.Slices.{put}
use Rattle.text.specs.declared.Page.{Page}
use Rattle.text.specs.Pages.{Fits, Puts}
use Rattle.text.proofs.Laws.{put_all, decimal_length, pick_on, puts_none, puts_then, puts_as}
use Rattle.lines.specs.declared.Lines.{Lines}
use Rattle.lines.specs.Left.{lines_left}
use Rattle.pressure.specs.declared.Order.TheVariants.{ToleranceFirst, PressureFirst}
use Rattle.answer.specs.declared.Refusal.{Refusal}
use Rattle.answer.specs.declared.Verdict.{Verdict}
use Rattle.answer.specs.declared.Verdict.TheVariants.{Holds, Fails, Open}
use Rattle.answer.specs.Answers.{verdict_number, Answer}
use Rattle.answer.specs.Checks.{FirstBroken, AllPassed}
use Rattle.answer.specs.Answering.{refusal_by}
use Rattle.answer.proofs.Checks.{first_or_lem, refusal_none, refused_first, passed_first}
use Rattle.reading.specs.Answers.{Changed}
use Rattle.reading.specs.Answering.{answer_to}
use Rattle.reading.proofs.Answers.{answer_right}
use Rattle.reading.proofs.Orders.{line_same, line_changed}
use Rattle.listing.specs.Listing.{verdict_word}
use Rattle.outcome.specs.declared.TurnedBack.{TurnedBack}
use Rattle.outcome.specs.Sheet.{sheet_checks, turned_back_by}
use Rattle.outcome.proofs.Laws.{accepted}
use Rattle.readings.specs.Readings.{change_of, row, rows, Compares, turned, compared, rows_length, Readings}
use Rattle.readings.specs.Running.{differences, comparison}

-- ---- the room that rows take

word_short : (v : Verdict) → length (verdict_word v) ≤ 5
word_short Holds = lit≤ tt
word_short Fails = lit≤ tt
word_short Open = lit≤ tt

pub apart_length : (k : ℕ) (v w : Verdict) → length (row k (Some (v, w))) ≡ 5 + length (decimal k) + length (verdict_word v) + length (verdict_word w)
apart_length k v w = simp length-append (omega arith)

row_short : (k : ℕ) → k < 10000 → (c : Option (Verdict × Verdict)) → length (row k c) ≤ 24
row_short k h None = zero-le
row_short k h (Some (v, w)) = omega (arith, apart_length k v w, decimal_length 3 k h, word_short v, word_short w)

rows_short : (old new : List ℕ → Answer) (k : ℕ) (ls : List (List ℕ)) → k + length ls ≤ 10000 → length (rows old new k ls) ≤ 24 * length ls
unfolding rows
rows_short old new k [] h = zero-le
rows_short old new k (l ∷ ls) h =
    let c = change_of (old l) (new l) in
    omega (arith, length-append (row k c) (rows old new (k + 1) ls), row_short k (omega (arith, h)) c, rows_short old new (k + 1) ls (omega (arith, h)))

-- ---- the loop

-- the rows of what is left, counted from k
abbrev left : ℕ → Lines → List ℕ
left k it = rows (answer_to ToleranceFirst) (answer_to PressureFirst) k (lines_left it)

-- To finish from here is to do the whole: `bytes` stand on the page for the lines so far
pub record Here (sheet : List ℕ) (start page : Page) (it : Lines) (k : ℕ) : Type 0 where
  pub bytes : List ℕ
  pub puts : Puts start bytes page
  pub next : bytes ++ left k it ≡ differences sheet
  pub counted : k + length (lines_left it) ≡ 1 + length (lines sheet)

pub here_first : (sheet : List ℕ) (start : Page) (it : Lines) (k : ℕ) → lines_left it ≡ lines sheet → k ≡ 1 → Here sheet start start it k
here_first sheet start it k e one =
    rw one
    (record {
      bytes = [];
      puts = puts_none start;
      next = ap (rows (answer_to ToleranceFirst) (answer_to PressureFirst) 1) e;
      counted = omega (arith, ap length e);
    })

-- what the two readings say of a line
abbrev pub change_on : List ℕ → Option (Verdict × Verdict)
change_on l = change_of (answer_to ToleranceFirst l) (answer_to PressureFirst l)

module _ (sheet : List ℕ) (start page : Page) (it : Lines) (k : ℕ) (here : Here sheet start page it k) where
  -- in a turn, at line n
  module _ (line : List ℕ) (after : Lines) (steps : lines_left it ≡ line ∷ lines_left after) (n : ℕ) (same : n ≡ k) (c : Option (Verdict × Verdict)) (says : c ≡ change_on line) where
    first : left k it ≡ row n c ++ left (n + 1) after
    unfolding rows
    first = rw (says, same) (ap (rows (answer_to ToleranceFirst) (answer_to PressureFirst) k) steps)

    pub here_room : Fits start (differences sheet) → Fits page (row n c)
    here_room room =
        let whole = ap length here.next in
        let so_far = length-append here.bytes (left k it) in
        let split = ap length first ∙ length-append (row n c) (left (n + 1) after) in
        omega (arith, whole, so_far, split, here.puts.at, here.puts.size)

    pub here_turn : {page' : Page} (next : ℕ) → next ≡ n + 1 → Puts page (row n c) page' → Here sheet start page' after next
    here_turn next more w =
        rw more
        (record {
          bytes = here.bytes ++ row n c;
          puts = puts_then here.puts w;
          next = append_assoc here.bytes (row n c) (left (n + 1) after) ∙ ap (λ (l : List ℕ). here.bytes ++ l) (sym first) ∙ here.next;
          counted = omega (arith, here.counted, ap length steps);
        })

  pub here_end : lines_left it ≡ [] → Puts start (differences sheet) page
  unfolding rows
  here_end none = puts_as (sym (append-nil here.bytes) ∙ ap (λ (ls : List (List ℕ)). here.bytes ++ rows (answer_to ToleranceFirst) (answer_to PressureFirst) k ls) (sym none) ∙ here.next) here.puts

-- ---- a line with a row

same_alike : (a : Answer) → change_of a a ≡ None
same_alike (Ok i) = pick_on (eqb (verdict_number i.verdict) (verdict_number i.verdict)) None (Some (i.verdict, i.verdict)) (eq-eqb (verdict_number i.verdict) (verdict_number i.verdict) refl)
same_alike (Err n) = refl

-- each row is of a line that loses the gain, or whose test is in doubt
pub row_changed : (l : List ℕ) (v w : Verdict) → ◌≡◌ {A = Option (Verdict × Verdict)} (change_on l) (Some (v, w)) → Changed l
row_changed l v w e = line_changed l (λ same. alike_apart (sym (same_alike (answer_to PressureFirst l)) ∙ sym (ap (λ (a : Answer). change_of a (answer_to PressureFirst l)) same) ∙ e))
  where
    alike_apart : ¬ (◌≡◌ {A = Option (Verdict × Verdict)} None (Some (v, w)))
    alike_apart f = cc

-- ---- the run

module _ (sheet out : List ℕ) where
  rows_room : AllPassed (sheet_checks sheet (length out)) → length (differences sheet) ≤ length out
  rows_room all =
      let a = accepted sheet (length out) all in
      omega (arith, rows_short (answer_to ToleranceFirst) (answer_to PressureFirst) 1 (lines sheet) (omega (arith, a.few)), a.enough)

  pub run_turned : (e : Refusal) → Err e ≡ refusal_by (sheet_checks sheet (length out)) → ◌≡◌ {A = Result ℕ TurnedBack × List ℕ} (Err (turned_back_by e), out) (comparison sheet out)
  unfolding comparison
  run_turned e is = refused_first (sheet_checks sheet (length out)) (λ m. (Err (turned_back_by m), out)) _ e is

  module _ (is : Ok tt ≡ refusal_by (sheet_checks sheet (length out))) where
    pub run_short : length sheet ≤ 65535
    run_short = (accepted sheet (length out) (refusal_none (sheet_checks sheet (length out)) is)).short

    pub run_room : length (differences sheet) ≤ length out
    run_room = rows_room (refusal_none (sheet_checks sheet (length out)) is)

    pub run_compared : (r : ℕ) (out' : List ℕ) → r ≡ length (differences sheet) → out' ≡ put out 0 (differences sheet) →
        ◌≡◌ {A = Result ℕ TurnedBack × List ℕ} (Ok r, out') (comparison sheet out)
    unfolding comparison
    run_compared r out' a w =
        (λ i. (Ok (a i), (w ∙ put_all out (differences sheet) run_room) i))
        ∙ passed_first (sheet_checks sheet (length out)) (λ m. (Err (turned_back_by m), out)) _ is

-- what is written and returned so is what is laid down
module _ (sheet out : List ℕ) where
  abbrev Claim : Result ℕ TurnedBack × List ℕ → Type 0
  Claim q = Readings (answer_to ToleranceFirst) (answer_to PressureFirst) sheet out q.0 q.1

  claim : (q : Result ℕ TurnedBack × List ℕ) → Compares (answer_to ToleranceFirst) (answer_to PressureFirst) sheet out q.0 q.1 → rows_length q.0 ≤ length q.1 → Claim q
  claim q run fits =
      record {
        run = run;
        fits = fits;
        old_right = answer_right ToleranceFirst;
        new_right = answer_right PressureFirst;
        alike = λ l c is h. line_same l c is h;
        changed = line_changed;
      }

  pub readings_right : Claim (comparison sheet out)
  unfolding comparison
  readings_right =
      go (first_or_lem (λ n. (Err (turned_back_by n), out)) (Ok (length (differences sheet)), differences sheet ++ drop (length (differences sheet)) out)
      (sheet_checks sheet (length out)))
    where
      go : ((n : Refusal) × (FirstBroken (sheet_checks sheet (length out)) n × (comparison sheet out ≡ (Err (turned_back_by n), out))))
          ⊎ (AllPassed (sheet_checks sheet (length out)) × (comparison sheet out ≡ (Ok (length (differences sheet)), differences sheet ++ drop (length (differences sheet)) out)))
          → Claim (comparison sheet out)
      go (inl (n, (f, e))) = subst Claim (sym e) (claim (Err (turned_back_by n), out) (turned n f refl refl) zero-le)
      go (inr (all, e)) =
          subst Claim (sym e)
          (claim (Ok (length (differences sheet)), differences sheet ++ drop (length (differences sheet)) out) (compared all refl refl)
          (omega (arith, length-append (differences sheet) (drop (length (differences sheet)) out))))

  -- for the code
  pub readings_of : (r : Result ℕ TurnedBack) (out' : List ℕ) → ◌≡◌ {A = Result ℕ TurnedBack × List ℕ} (r, out') (comparison sheet out) → Claim (r, out')
  readings_of r out' e = subst Claim (sym e) readings_right

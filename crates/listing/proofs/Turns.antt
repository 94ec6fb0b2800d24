-- A loop that puts the line for one answer after the other and counts them: where it stands, a turn, and its end.
-- Assumes nothing.
use mathlib.Core.Path.{◌≡◌, refl, sym, ap, ◌∙◌, subst}
use Prim.Native.Nat.{ℕ, ◌+◌}
use native.Mathlib.Nat.{zero-add, add-zero}
use native.Mathlib.Omega.{arith}
use mathlib.Core.List.{List, [], ◌∷◌, ◌++◌, append_assoc, append-nil}
use lib.ListN.{length, length-append}
use Rattle.algebra.specs.Choice.{pick}
use Rattle.text.specs.declared.Page.{Page}
use Rattle.text.specs.Pages.{Fits, Puts}
use Rattle.text.proofs.Laws.{puts_none, puts_then, puts_as}
use Rattle.answer.specs.Answers.{Answer}
use Rattle.answer.specs.declared.Verdict.TheVariants.{Holds, Fails, Open}
use Rattle.listing.specs.declared.Counts.{Counts}
use Rattle.listing.specs.Listing.{entry, entries, says, is_refused, count, counts, total, ended, joined, listing_of, no_counts}
use Rattle.listing.specs.Counting.{with_answer}
use Rattle.listing.proofs.Totals.{Within, counts_within, listing_length}

-- the counts with the answers xs added
abbrev added : Counts → List Answer → Counts
added c xs =
    record {
      lines = c.lines + length xs;
      holds = c.holds + count (says Holds) xs;
      fails = c.fails + count (says Fails) xs;
      opens = c.opens + count (says Open) xs;
      refused = c.refused + count is_refused xs;
    }

-- To finish from here is to do the whole: c counts the answers so far, xs are the answers that are left, and `bytes` stand on the page for those so far
pub record Here (whole : List Answer) (start page : Page) (xs : List Answer) (c : Counts) : Type 0 where
  pub bytes : List ℕ
  pub puts : Puts start bytes page
  pub next : bytes ++ joined (entries (c.lines + 1) xs) ≡ joined (entries 1 whole)
  pub counted : added c xs ≡ counts whole

pub here_first : (whole : List Answer) (start : Page) (xs : List Answer) (c : Counts) → xs ≡ whole → c ≡ no_counts → Here whole start start xs c
here_first whole start xs c all none =
    rw (all, none)
    (record {
      bytes = [];
      puts = puts_none start;
      next = refl;
      counted =
          λ i. record {
            lines = zero-add (length whole) i;
            holds = zero-add (count (says Holds) whole) i;
            fails = zero-add (count (says Fails) whole) i;
            opens = zero-add (count (says Open) whole) i;
            refused = zero-add (count is_refused whole) i;
          };
    })

module _ (whole : List Answer) (start page : Page) (c : Counts) where
  -- in a turn
  module _ (a : Answer) (ys : List Answer) where
    added_cons : added (with_answer c a) ys ≡ added c (a ∷ ys)
    unfolding count
    added_cons =
        λ i. record {
          lines = lines i;
          holds = sum c.holds (pick (says Holds a) 1 0) (count (says Holds) ys) i;
          fails = sum c.fails (pick (says Fails a) 1 0) (count (says Fails) ys) i;
          opens = sum c.opens (pick (says Open a) 1 0) (count (says Open) ys) i;
          refused = sum c.refused (pick (is_refused a) 1 0) (count is_refused ys) i;
        }
      where
        sum : (x y z : ℕ) → x + y + z ≡ x + (y + z)
        sum x y z = omega arith

        lines : c.lines + 1 + length ys ≡ c.lines + length (a ∷ ys)
        lines = omega arith

    turn : Here whole start page (a ∷ ys) c → {page' : Page} → Puts page (ended (entry (c.lines + 1) a)) page' → Here whole start page' ys (with_answer c a)
    unfolding joined entries
    turn h w =
        record {
          bytes = h.bytes ++ ended (entry (c.lines + 1) a);
          puts = puts_then h.puts w;
          next = append_assoc h.bytes (ended (entry (c.lines + 1) a)) (joined (entries (c.lines + 1 + 1) ys)) ∙ h.next;
          counted = added_cons ∙ h.counted;
        }

    module _ (xs : List Answer) (h : Here whole start page xs c) (e : xs ≡ a ∷ ys) (c' : Counts) (one : c' ≡ with_answer c a) where
      abbrev here : Here whole start page (a ∷ ys) c
      here = subst (λ (zs : List Answer). Here whole start page zs c) e h

      pub here_room : Fits start (listing_of whole) → Fits page (ended (entry c'.lines a))
      unfolding joined entries
      here_room room =
          let left = ap length here.next in
          let split = length-append here.bytes (joined (entries (c.lines + 1) (a ∷ ys))) in
          let first = length-append (ended (entry (c.lines + 1) a)) (joined (entries (c.lines + 1 + 1) ys)) in
          omega (arith, listing_length whole, left, split, first, here.puts.at, here.puts.size, ap (λ (d : Counts). length (ended (entry d.lines a))) one)

      pub here_turn : {page' : Page} → Puts page (ended (entry c'.lines a)) page' → Here whole start page' ys c'
      here_turn {page'} w =
          subst (λ (d : Counts). Here whole start page' ys d) (sym one)
          (turn here (subst (λ (d : Counts). Puts page (ended (entry d.lines a)) page') one w))

  -- no count is above the number of answers
  pub here_within : (xs : List Answer) → Here whole start page xs c → Within c (length whole)
  here_within xs h =
      let w = counts_within whole in
      record {
        lines = omega (arith, ap (λ (d : Counts). d.lines) h.counted);
        holds = omega (arith, w.holds, ap (λ (d : Counts). d.holds) h.counted);
        fails = omega (arith, w.fails, ap (λ (d : Counts). d.fails) h.counted);
        opens = omega (arith, w.opens, ap (λ (d : Counts). d.opens) h.counted);
        refused = omega (arith, w.refused, ap (λ (d : Counts). d.refused) h.counted);
      }

  -- at the end
  module _ (xs : List Answer) (h : Here whole start page xs c) (e : xs ≡ []) where
    abbrev done : Here whole start page [] c
    done = subst (λ (zs : List Answer). Here whole start page zs c) e h

    pub here_counts : c ≡ counts whole
    unfolding count
    here_counts =
        (λ i. record { lines = less c.lines i; holds = less c.holds i; fails = less c.fails i; opens = less c.opens i; refused = less c.refused i })
        ∙ done.counted
      where
        less : (x : ℕ) → x ≡ x + 0
        less x = sym (add-zero x)

    here_puts : Puts start (joined (entries 1 whole)) page
    unfolding joined entries
    here_puts = puts_as (sym (append-nil done.bytes) ∙ done.next) done.puts

    pub here_total : Fits start (listing_of whole) → Fits page (ended (total c))
    here_total room =
        omega (arith, listing_length whole, here_puts.at, here_puts.size, ap (λ (d : Counts). length (ended (total d))) here_counts)

    -- the total line is put behind the others: that is the listing
    pub here_listing : {page' : Page} → Puts page (ended (total c)) page' → Puts start (listing_of whole) page'
    unfolding listing_of
    here_listing {page'} w = puts_then here_puts (subst (λ (d : Counts). Puts page (ended (total d)) page') here_counts w)

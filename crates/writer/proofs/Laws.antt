-- What the writer does is laid down so; what it puts is short enough, is one line, and reads as the load cases; and a line with a verdict is written again
-- as it was, apart from a d that it lacks. Assumes nothing.
use mathlib.Core.Path.{◌≡◌, refl, sym, ap, ◌∙◌, subst}
use Prim.Native.Nat.{ℕ, zero, suc, ◌+◌, ◌*◌, ◌≤◌, ◌<◌}
use native.Mathlib.Omega.{arith}
use mathlib.Core.Bool.{true, false, ◌&&◌, ◌||◌}
use mathlib.Core.Logic.{◌↔◌, ◌⊎◌, inl, inr}
use mathlib.Core.List.{List, [], ◌∷◌, ◌++◌, append-nil}
use lib.ListN.{length, length-append}
use lib.Dec.{leb, eqb}
use borrow.Author.Tests.{leb-true, le-leb, lt-leb, eqb-true}
use Rattle.pressure.specs.declared.Order.{Order}
use Rattle.text.specs.Bytes.{ascii, decimal, lines}
use Rattle.text.specs.Slices.{put}
use Rattle.text.proofs.Laws.{decimal_length, decimal_least, decimal_some, put_all}
use Rattle.algebra.proofs.Tests.{and_true, both_true, missed_left, missed_right, or_true, clash}
use Rattle.format.specs.Texts.{Each}
use Rattle.listing.proofs.Lines.{plain, plain_append, lines_ended, decimal_plain}
use Rattle.std.specs.Prelude.{Option, Some, None, Ok, Err}
use Rattle.answer.specs.declared.Refusal.{Refusal}
use Rattle.answer.specs.Answers.{Answer, refusal_number}
use Rattle.answer.proofs.Numbers.{refusal_range}
use Rattle.answer.specs.Checks.{FirstBroken, AllPassed}
use Rattle.answer.specs.declared.Judgement.{Judgement}
use Rattle.answer.specs.Right.{judged}
use Rattle.answer.specs.Answering.{refusal_by}
use Rattle.answer.proofs.Checks.{first_or_lem, first_broken, all_passed, refusal_broken, refusal_none}
use Rattle.record.specs.declared.Wall.{Wall}
use Rattle.record.specs.declared.Ring.{Ring}
use Rattle.record.specs.declared.Ring.TheVariants.{Stress, Wind}
use Rattle.record.specs.declared.Group.{Group}
use Rattle.record.specs.Limits.{dimensions, material, stresses, ring_in_range, wind_allowed, pressure_allowed}
use Rattle.record.proofs.Checks.{Ranges, ranges}
use Rattle.record.proofs.Wind.{wind_limits}
use Rattle.cases.specs.Cases.{LoadCases, alone, every, case_checks, RightCases, At}
use Rattle.cases.specs.Answering.{no_group, cases_answer}
use Rattle.reading.specs.Text.{wall_text, ring_text, group_text, groups_text, SmallRing, SmallGroup, Small, text, text_without_shortfall, Spells, inner_text, SmallInner}
use Rattle.reading.specs.Answers.{RightLine, too_long, not_form, of_cases}
use Rattle.reading.specs.Reading.{form_of}
use Rattle.reading.specs.Answering.{answer_to}
use Rattle.reading.proofs.Inverse.{read_text, spells_once, spells_some, spells_few}
use Rattle.reading.proofs.Answers.{answer_read}
use Rattle.writer.specs.Writing.{Written, count_allowed, writer_checks, line_of, starting_with, Writes, refuses, puts, written_number}
use Rattle.writer.specs.Writer.{spaced_group, writing}
use Rattle.writer.proofs.Puts.{wall_length, wind_length, group_length, line_length, pressure_length}

-- ---- the answer and the buffer are as laid down

pub writes : (c : LoadCases) (out : List ℕ) → Writes c out (writing c out).1 (writing c out).0
unfolding writing
writes c out = go (first_or_lem (λ r. (Err r, out)) (Ok (length (line_of c)), starting_with (line_of c) out) (writer_checks (length out) c))
  where
    go : {w : Written × List ℕ} → ((n : Refusal) × (FirstBroken (writer_checks (length out) c) n × (w ≡ (Err n, out))))
        ⊎ (AllPassed (writer_checks (length out) c) × (w ≡ (Ok (length (line_of c)), starting_with (line_of c) out))) → Writes c out w.1 w.0
    go (inl (n, (f, e))) = rw e (refuses n f refl)
    go (inr (all, e)) = rw e (puts all refl)

-- ---- the count, and what the checks let through

-- 1 to 8 load cases
pub record Count (c : LoadCases) : Type 0 where
  pub some : 1 ≤ length c.groups
  pub few : length c.groups ≤ 8

pub count_between : (c : LoadCases) → count_allowed c ≡ true → Count c
count_between c h =
    let n = length c.groups in
    let (a, b) = and_true (leb 1 n) (leb n 8) h in
    record { some = leb-true 1 n a; few = leb-true n 8 b }

pub count_allowed_lem : (c : LoadCases) → Count c → count_allowed c ≡ true
count_allowed_lem c k = let n = length c.groups in both_true (leb 1 n) (leb n 8) (le-leb 1 n k.some) (le-leb n 8 k.few)

pub count_none : (c : LoadCases) → length c.groups ≡ 0 → count_allowed c ≡ false
count_none c none = let n = length c.groups in missed_left (leb 1 n) (leb n 8) (lt-leb 1 n (omega (arith, none)))

pub count_many : (c : LoadCases) → 8 < length c.groups → count_allowed c ≡ false
count_many c many = let n = length c.groups in missed_right (leb 1 n) (leb n 8) (lt-leb n 8 many)

-- a group that breaks neither 6 nor 13
record Allowed (g : Group) : Type 0 where
  axial : g.axial ≤ 700000
  ring : ring_in_range g.ring ≡ true
  shear : g.shear ≤ 700000
  wind : wind_allowed g.ring ≡ true

group_allowed : (g : Group) → stresses g ≡ true → wind_allowed g.ring ≡ true → Allowed g
group_allowed g s w =
    let (x, yz) = and_true (leb g.axial 700000) (ring_in_range g.ring && leb g.shear 700000) s in
    let (y, z) = and_true (ring_in_range g.ring) (leb g.shear 700000) yz in
    record { axial = leb-true g.axial 700000 x; ring = y; shear = leb-true g.shear 700000 z; wind = w }

groups_allowed : (gs : List Group) → every stresses gs ≡ true → every (λ g. wind_allowed g.ring) gs ≡ true → Each Allowed gs
groups_allowed [] s w = tt
groups_allowed (g ∷ gs) s w =
    let (s1, s2) = and_true (stresses g) (every stresses gs) s in
    let (w1, w2) = and_true (wind_allowed g.ring) (every (λ h. wind_allowed h.ring) gs) w in
    (group_allowed g s1 w1, groups_allowed gs s2 w2)

module _ (c : LoadCases) (all : AllPassed (case_checks c)) where
  all_allowed : Each Allowed c.groups
  all_allowed =
      let (d, ms) = and_true (dimensions c.wall) (material c.wall && every stresses c.groups) all.0 in
      groups_allowed c.groups (and_true (material c.wall) (every stresses c.groups) ms).1 all.1.1.1.1.1.1.0

  -- of the wall, as with no stress on it
  wall_ranges : Ranges c.wall no_group
  wall_ranges =
      let (d, ms) = and_true (dimensions c.wall) (material c.wall && every stresses c.groups) all.0 in
      let (m, s) = and_true (material c.wall) (every stresses c.groups) ms in
      ranges (alone c no_group) (both_true (dimensions c.wall) (material c.wall && stresses no_group) d (both_true (material c.wall) (stresses no_group) m refl))

-- ---- load cases that break no check have numbers of at most 7 digits

edges_between : (n : ℕ) → (eqb n 11 || (eqb n 12 || eqb n 22)) ≡ true → (10 ≤ n) × (n < 100)
edges_between n h = go (or_true (eqb n 11) (eqb n 12 || eqb n 22) h)
  where
    more : (eqb n 12 ≡ true) ⊎ (eqb n 22 ≡ true) → (10 ≤ n) × (n < 100)
    more (inl e) = (omega (arith, eqb-true n 12 e), omega (arith, eqb-true n 12 e))
    more (inr e) = (omega (arith, eqb-true n 22 e), omega (arith, eqb-true n 22 e))

    go : (eqb n 11 ≡ true) ⊎ ((eqb n 12 || eqb n 22) ≡ true) → (10 ≤ n) × (n < 100)
    go (inl e) = (omega (arith, eqb-true n 11 e), omega (arith, eqb-true n 11 e))
    go (inr e) = more (or_true (eqb n 12) (eqb n 22) e)

ring_small : (r : Ring) → ring_in_range r ≡ true → wind_allowed r ≡ true → SmallRing r
ring_small (Stress σφ) h g = omega (arith, leb-true σφ 700000 h)
ring_small (Wind w v) h g = let (most, vented) = wind_limits w v g in (omega (arith, most), omega (arith, vented))

inner_small : (i : Option ℕ) → pressure_allowed i ≡ true → SmallInner i
inner_small None h = tt
inner_small (Some p) h = omega (arith, leb-true p 1000000 h)

groups_small : (gs : List Group) → Each Allowed gs → Each SmallGroup gs
groups_small [] all = tt
groups_small (g ∷ gs) (a, all) = ((omega (arith, a.axial), ring_small g.ring a.ring a.wind, omega (arith, a.shear)), groups_small gs all)

pub passed_small : (c : LoadCases) → count_allowed c ≡ true → AllPassed (case_checks c) → Small c
unfolding Small
passed_small c count all =
    let rs = wall_ranges c all in
    let n = count_between c count in (
      (
        omega (arith, rs.radius.most),
        omega (arith, rs.thickness.most),
        omega (arith, rs.length.most),
        omega (arith, rs.modulus.most),
        omega (arith, rs.yield.most),
        omega (arith, (edges_between c.wall.edges all.1.0).1),
        omega (arith, leb-true c.wall.imperfection 2000 all.1.1.1.1.1.0),
        omega (arith, leb-true c.wall.shortfall 50 all.1.1.0),
      ),
      (n.some, n.few, groups_small c.groups (all_allowed c all)),
      inner_small c.inner all.1.1.1.1.1.1.1.0,
    )

-- ---- the line has no newline within it

fixed_plain : (plain (ascii " ") ≡ true) × (plain (ascii ")") ≡ true) × (plain (ascii "(stress ") ≡ true) × (plain (ascii "(shell ") ≡ true) × (plain (ascii "(wind ") ≡ true) × (plain (ascii " (inner ") ≡ true) × (plain [] ≡ true)
unfolding plain
fixed_plain = (refl, refl, refl, refl, refl, refl, refl)

next_plain : (xs : List ℕ) (n : ℕ) → plain xs ≡ true → plain (xs ++ ascii " " ++ decimal n) ≡ true
next_plain xs n h = plain_append (xs ++ ascii " ") (decimal n) (plain_append xs (ascii " ") h fixed_plain.0) (decimal_plain n)

wall_plain : (w : Wall) → plain (wall_text w) ≡ true
wall_plain w = next_plain _ _ (next_plain _ _ (next_plain _ _ (next_plain _ _ (next_plain _ _ (next_plain _ _ (next_plain _ _ (decimal_plain w.radius)))))))

ring_plain : (r : Ring) → plain (ring_text r) ≡ true
ring_plain (Stress σφ) = decimal_plain σφ
ring_plain (Wind w v) = plain_append _ (ascii ")") (next_plain _ _ (plain_append (ascii "(wind ") (decimal w) fixed_plain.4 (decimal_plain w))) fixed_plain.1

group_plain : (g : Group) → plain (group_text g) ≡ true
group_plain g =
    let start = plain_append (ascii "(stress ") (decimal g.axial) fixed_plain.2 (decimal_plain g.axial) in
    plain_append _ (ascii ")") (next_plain _ _ (plain_append _ (ring_text g.ring) (plain_append _ (ascii " ") start fixed_plain.0) (ring_plain g.ring))) fixed_plain.1

inner_plain : (i : Option ℕ) → plain (inner_text i) ≡ true
inner_plain None = fixed_plain.6
inner_plain (Some p) = plain_append _ (ascii ")") (plain_append (ascii " (inner ") (decimal p) fixed_plain.5 (decimal_plain p)) fixed_plain.1

groups_plain : (gs : List Group) → plain (groups_text gs) ≡ true
groups_plain [] = fixed_plain.6
groups_plain (g ∷ gs) = plain_append (spaced_group g) (groups_text gs) (plain_append (ascii " ") (group_text g) fixed_plain.0 (group_plain g)) (groups_plain gs)

text_plain : (c : LoadCases) → plain (text c) ≡ true
unfolding text
text_plain c =
    plain_append _ (ascii ")")
    (plain_append _ (inner_text c.inner)
    (plain_append _ (groups_text c.groups) (plain_append (ascii "(shell ") (wall_text c.wall) fixed_plain.3 (wall_plain c.wall)) (groups_plain c.groups))
    (inner_plain c.inner))
    fixed_plain.1

-- ---- the lengths of the texts of pressure and groups

inner_short : (i : Option ℕ) → pressure_allowed i ≡ true → length (inner_text i) ≤ 16
inner_short None h = omega arith
inner_short (Some p) h = omega (arith, pressure_length p, decimal_length 6 p (omega (arith, leb-true p 1000000 h)))

ring_short_lem : (r : Ring) → ring_in_range r ≡ true → wind_allowed r ≡ true → length (ring_text r) ≤ 14
ring_short_lem (Stress σφ) h g = omega (arith, decimal_length 5 σφ (omega (arith, leb-true σφ 700000 h)))
ring_short_lem (Wind w v) h g =
    let (most, vented) = wind_limits w v g in omega (arith, wind_length w v, decimal_length 4 w (omega (arith, most)), decimal_length 0 v (omega (arith, vented)))

ring_some : (r : Ring) → 1 ≤ length (ring_text r)
ring_some (Stress σφ) = decimal_some σφ
ring_some (Wind w v) = omega (arith, wind_length w v)

-- with its space a group has 38 bytes at most
group_short : (g : Group) → Allowed g → length (spaced_group g) ≤ 38
group_short g a =
    omega (arith, group_length g, decimal_length 5 g.axial (omega (arith, a.axial)), ring_short_lem g.ring a.ring a.wind, decimal_length 5 g.shear (omega (arith, a.shear)))

groups_short : (gs : List Group) → Each Allowed gs → length (groups_text gs) ≤ 38 * length gs
groups_short [] all = omega arith
groups_short (g ∷ gs) (a, all) = omega (arith, length-append (spaced_group g) (groups_text gs), group_short g a, groups_short gs all)

-- and 14 at least besides those of its ring
group_long : (g : Group) → 14 + length (ring_text g.ring) ≤ length (spaced_group g)
group_long g = omega (arith, group_length g, decimal_some g.axial, decimal_some g.shear)

groups_long : (gs : List Group) → 15 * length gs ≤ length (groups_text gs)
groups_long [] = omega arith
groups_long (g ∷ gs) = omega (arith, length-append (spaced_group g) (groups_text gs), group_long g, ring_some g.ring, groups_long gs)

-- the text of a group is a part of theirs
group_within : (gs : List Group) (n : ℕ) (g : Group) → At gs n g → length (spaced_group g) ≤ length (groups_text gs)
group_within [] n g e = elim e [ ]
group_within (h ∷ hs) zero g e = omega (arith, ap (λ (x : Group). length (spaced_group x)) e, length-append (spaced_group h) (groups_text hs))
group_within (h ∷ hs) (suc n) g at = omega (arith, group_within hs n g at, length-append (spaced_group h) (groups_text hs))

module _ (c : LoadCases) (count : count_allowed c ≡ true) (all : AllPassed (case_checks c)) where
  -- ---- what is put

  -- spells the load cases
  pub line_spells : Spells (text c) c
  unfolding Spells
  line_spells = (passed_small c count all, inl refl)

  -- has at most 49 bytes besides those of groups and pressure
  pub line_most : length (line_of c) ≤ 49 + length (groups_text c.groups) + length (inner_text c.inner)
  line_most =
      let rs = wall_ranges c all in
      omega (
        arith,
        line_length c,
        wall_length c.wall,
        decimal_length 4 c.wall.radius (omega (arith, rs.radius.most)),
        decimal_length 4 c.wall.thickness (omega (arith, rs.thickness.most)),
        decimal_length 5 c.wall.length (omega (arith, rs.length.most)),
        decimal_length 5 c.wall.modulus (omega (arith, rs.modulus.most)),
        decimal_length 2 c.wall.yield_stress (omega (arith, rs.yield.most)),
        decimal_length 1 c.wall.edges (edges_between c.wall.edges all.1.0).1,
        decimal_length 3 c.wall.imperfection (omega (arith, leb-true c.wall.imperfection 2000 all.1.1.1.1.1.0)),
        decimal_length 1 c.wall.shortfall (omega (arith, leb-true c.wall.shortfall 50 all.1.1.0)),
      )

  -- 38 at most for each group with its space, and 16 for pressure
  pub groups_most : length (groups_text c.groups) ≤ 38 * length c.groups
  groups_most = groups_short c.groups (all_allowed c all)

  pub each_short : length (line_of c) ≤ 65 + 38 * length c.groups
  each_short = omega (arith, line_most, groups_most, inner_short c.inner all.1.1.1.1.1.1.1.0)

  -- so 103 at most for one load case and 369 for eight, and 512 are enough; 16 fewer without pressure
  pub line_short : length (line_of c) ≤ 369
  line_short = omega (arith, each_short, (count_between c count).few)

  pub missing_short : c.inner ≡ None → length (line_of c) ≤ 49 + 38 * length c.groups
  missing_short e = omega (arith, line_most, groups_most, ap (λ (i : Option ℕ). length (inner_text i)) e)

  text_most : length (text c) ≤ 512
  text_most = omega (arith, line_short, length-append (text c) (10 ∷ []))

  -- reads as the load cases
  pub written_reads : form_of (text c) ≡ Some c
  written_reads = read_text (text c) c line_spells

  -- and has the program's answer to them
  pub written_answer : (o : Order) → answer_to o (text c) ≡ cases_answer o c
  written_answer o = sym (answer_read o (text c) text_most (form_of (text c)) refl c written_reads (cases_answer o c) refl)

  -- and so are the right answers to it those to the load cases
  pub written_right : (o : Order) (a : Answer) → RightLine o (text c) a ↔ RightCases o c a
  written_right o a = (λ r. to a r, λ r. of_cases c a text_most line_spells r)
    where
      to : (a : Answer) → RightLine o (text c) a → RightCases o c a
      to _ (too_long h) = absurd (omega (arith, h, text_most))
      to _ (not_form h none) = absurd (none c line_spells)
      to _ (of_cases d a h is right) = subst (λ (x : LoadCases). RightCases o x a) (spells_once (text c) d c is line_spells) right

  -- and is put, where the buffer has room
  pub line_put : (out : List ℕ) → 512 ≤ length out → writing c out ≡ (Ok (length (line_of c)), starting_with (line_of c) out)
  unfolding writing
  line_put out room = all_passed (λ r. (Err r, out)) _ (writer_checks (length out) c) (le-leb 512 (length out) room, (count, all))

  -- and has 36 bytes at least besides those of groups and pressure
  pub line_least : 36 + length (groups_text c.groups) + length (inner_text c.inner) ≤ length (line_of c)
  line_least =
      let rs = wall_ranges c all in
      omega (
        arith,
        line_length c,
        wall_length c.wall,
        decimal_least 2 c.wall.radius rs.radius.least,
        decimal_least 2 c.wall.thickness rs.thickness.least,
        decimal_least 1 c.wall.length rs.length.least,
        decimal_least 4 c.wall.modulus (omega (arith, rs.modulus.least)),
        decimal_least 2 c.wall.yield_stress rs.yield.least,
        decimal_least 1 c.wall.edges (edges_between c.wall.edges all.1.0).0,
        decimal_some c.wall.imperfection,
        decimal_some c.wall.shortfall,
      )

  -- 15 at least for each group with its space
  pub each_long : 36 + 15 * length c.groups ≤ length (line_of c)
  each_long = omega (arith, line_least, groups_long c.groups)

  -- so 51 bytes at least, with wind in a group 60, and 10 more with pressure
  pub line_long : 51 ≤ length (line_of c)
  line_long = omega (arith, each_long, (count_between c count).some)

  pub wind_long : (n : ℕ) (g : Group) → At c.groups n g → (w v : ℕ) → g.ring ≡ Wind w v → 60 ≤ length (line_of c)
  wind_long n g at w v e =
      omega (arith, line_least, group_within c.groups n g at, group_long g, wind_length w v, decimal_some w, decimal_some v, ap (λ (r : Ring). length (ring_text r)) e)

  pub inner_long : (p : ℕ) → c.inner ≡ Some p → 10 ≤ length (inner_text c.inner)
  inner_long p e = omega (arith, pressure_length p, decimal_some p, ap (λ (i : Option ℕ). length (inner_text i)) e)

  -- it is one line
  pub line_one : lines (line_of c) ≡ text c ∷ []
  unfolding lines
  line_one = subst (λ (l : List ℕ). lines l ≡ text c ∷ []) (append-nil (line_of c)) (lines_ended (text c) [] (text_plain c))

-- SCOPE 21.5: an answer that is laid down so has the number of a refusal, 16 at most, or of bytes put, 51 at least
pub written_apart : (c : LoadCases) (out out' : List ℕ) (w : Written) → Writes c out out' w → ((r : Refusal) → w ≡ Err r → written_number w ≤ 16) × ((n : ℕ) → w ≡ Ok n → 51 ≤ written_number w)
written_apart c out out' _ (refuses m f e) = (λ r q. (refusal_range m).1, λ n q. absurd (let z : ◌≡◌ {A = ℕ} 0 1 = cc in omega arith))
written_apart c out out' _ (puts (t, (count, all)) e) = (λ r q. absurd (let z : ◌≡◌ {A = ℕ} 0 1 = cc in omega arith), λ n q. omega (arith, line_long c count all))

-- a check refuses by a number of 13 at most
thirteen : {k r : Refusal} → refusal_number k ≤ 13 → k ≡ r → refusal_number r ≤ 13
thirteen h e = subst (λ (x : Refusal). refusal_number x ≤ 13) e h

-- without pressure a refusal is 13 at most
missing_range : (c : LoadCases) → pressure_allowed c.inner ≡ true → (m : Refusal) → FirstBroken (case_checks c) m → refusal_number m ≤ 13
missing_range c allowed m (inl (f, is)) = thirteen (omega arith) is
missing_range c allowed m (inr (_, inl (f, is))) = thirteen (omega arith) is
missing_range c allowed m (inr (_, inr (_, inl (f, is)))) = thirteen (omega arith) is
missing_range c allowed m (inr (_, inr (_, inr (_, inl (f, is))))) = thirteen (omega arith) is
missing_range c allowed m (inr (_, inr (_, inr (_, inr (_, inl (f, is)))))) = thirteen (omega arith) is
missing_range c allowed m (inr (_, inr (_, inr (_, inr (_, inr (_, inl (f, is))))))) = thirteen (omega arith) is
missing_range c allowed m (inr (_, inr (_, inr (_, inr (_, inr (_, inr (_, inl (f, is)))))))) = thirteen (omega arith) is
missing_range c allowed m (inr (_, inr (_, inr (_, inr (_, inr (_, inr (_, inr (_, inl (f, is))))))))) = absurd (clash allowed f)
missing_range c allowed m (inr (_, inr (_, inr (_, inr (_, inr (_, inr (_, inr (_, inr (_, none))))))))) = absurd none

pub missing_apart : (c : LoadCases) (out out' : List ℕ) (w : Written) → c.inner ≡ None → Writes c out out' w → (r : Refusal) → w ≡ Err r → written_number w ≤ 13
missing_apart c out out' _ none (refuses m f e) r q = below m f
  where
    below : (m : Refusal) → FirstBroken (writer_checks (length out) c) m → refusal_number m ≤ 13
    below m (inl (f, is)) = thirteen (omega arith) is
    below m (inr (t, inl (f, is))) = thirteen (omega arith) is
    below m (inr (t, inr (u, f))) = missing_range c (ap pressure_allowed none) m f
missing_apart c out out' _ none (puts all e) r q = absurd (let z : ◌≡◌ {A = ℕ} 0 1 = cc in omega arith)

-- ---- a line with a verdict, written again: the same bytes and a newline, apart from a d that it lacks

pub record Rewritten (l : List ℕ) : Type 0 where
  pub cases_of : LoadCases
  pub is_read : form_of l ≡ Some cases_of
  pub same_text : (l ≡ text cases_of) ⊎ ((cases_of.wall.shortfall ≡ 0) × (l ≡ text_without_shortfall cases_of))
  pub put_again : (out : List ℕ) → 512 ≤ length out → writing cases_of out ≡ (Ok (length (line_of cases_of)), starting_with (line_of cases_of) out)

pub rewritten : (o : Order) (l : List ℕ) (j : Judgement) → RightLine o l (Ok j) → Rewritten l
unfolding Spells
rewritten o l j r = go (Ok j) r refl
  where
    of : (c : LoadCases) → RightCases o c (Ok j) → AllPassed (case_checks c)
    of c (judged _ all b v) = all

    go : (a : Answer) → RightLine o l a → a ≡ Ok j → Rewritten l
    go _ (too_long h) q = absurd (let z : ◌≡◌ {A = ℕ} 0 1 = cc in omega arith)
    go _ (not_form h none) q = absurd (let z : ◌≡◌ {A = ℕ} 0 1 = cc in omega arith)
    go _ (of_cases c a h is right) q =
        record {
          cases_of = c;
          is_read = read_text l c is;
          same_text = is.1;
          put_again = λ out room. line_put c (count_allowed_lem c (record { some = spells_some l c is; few = spells_few l c is })) (of c (subst (RightCases o c) q right)) out room;
        }

-- ---- for the code

module _ (c : LoadCases) (out : List ℕ) where
  pub laid : (out' : List ℕ) (w : Written) → ◌≡◌ {A = Written × List ℕ} (w, out') (writing c out) → Writes c out out' w
  laid out' w e = subst (λ (x : Written × List ℕ). Writes c out x.1 x.0) (sym e) (writes c out)

  pub writing_small : length out < 512 → ◌≡◌ {A = Written × List ℕ} (Err Refusal.LineRoom, out) (writing c out)
  unfolding writing
  writing_small h = sym (first_broken (λ r. (Err r, out)) _ (writer_checks (length out) c) Refusal.LineRoom (inl (lt-leb 512 (length out) h, refl)))

  module _ (room : 512 ≤ length out) where
    pub writing_uncounted : length c.groups ≡ 0 → ◌≡◌ {A = Written × List ℕ} (Err Refusal.Form, out) (writing c out)
    unfolding writing
    writing_uncounted none = sym (first_broken (λ r. (Err r, out)) _ (writer_checks (length out) c) Refusal.Form (inr (le-leb 512 (length out) room, inl (count_none c none, refl))))

    module _ (k : Count c) where
      pub writing_refused : (r : Refusal) → Err r ≡ refusal_by (case_checks c) → ◌≡◌ {A = Written × List ℕ} (Err r, out) (writing c out)
      unfolding writing
      writing_refused r is =
          sym
          (first_broken (λ r. (Err r, out)) _ (writer_checks (length out) c) r
          (inr (le-leb 512 (length out) room, inr (count_allowed_lem c k, refusal_broken (case_checks c) r is))))

      module _ (is : Ok tt ≡ refusal_by (case_checks c)) where
        passed : AllPassed (case_checks c)
        passed = refusal_none (case_checks c) is

        pub writing_fits : length (line_of c) ≤ length out
        writing_fits = omega (arith, line_short c (count_allowed_lem c k) passed, room)

        pub writing_put : (n : ℕ) (out' : List ℕ) → n ≡ length (line_of c) → out' ≡ put out 0 (line_of c) → ◌≡◌ {A = Written × List ℕ} (Ok n, out') (writing c out)
        writing_put n out' e f = (λ i. (Ok (e i), (f ∙ put_all out (line_of c) writing_fits) i)) ∙ sym (line_put c (count_allowed_lem c k) passed out room)

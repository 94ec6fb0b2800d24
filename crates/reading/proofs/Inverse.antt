-- Reading is the inverse of writing: the format of each part, composed as its text is.
-- Assumes nothing.
use Rattle.std.proofs.Common.{Option, Some, None, Err}
use mathlib.Core.Path.{◌≡◌, refl, sym, ap, ◌∙◌}
use Prim.Native.Nat.{ℕ}
use native.Mathlib.Omega.{arith}
use mathlib.Core.List.{List, [], ◌++◌, append_assoc, append-nil}
use lib.Dec.{lit<}
use mathlib.Core.Logic.{◌↔◌, inl, inr}
use Rattle.text.specs.Bytes.{ascii, decimal}
use Rattle.text.specs.Slices.{up_to}
use Rattle.word.specs.Numbers.{number_of, plain_start}
use lib.ListN.{length}
use Prim.Native.Nat.{◌≤◌}
use mathlib.Core.List.{◌∷◌}
use Rattle.format.specs.Readers.{starts_with, fixed, number, sequence, changed, whole}
use Rattle.format.proofs.Formats.{Format, Kinds, Always, EndsWord, format_number, format_sequence, format_changed, format_as, format_before, format_closed, format_one_of, format_one_to, format_optional, Whole, none_whole, whole_none, whole_spells, whole_means, read_whole, format_whole}
use Rattle.record.specs.declared.Ring.TheVariants.{Stress, Wind}
use Rattle.record.specs.declared.Group.{Group}
use Rattle.record.specs.declared.Wall.{Wall}
use Rattle.cases.specs.Cases.{LoadCases}
use Rattle.reading.specs.Text.{seven_text, ring_text, group_text, groups_text, inner_text, shell_text, text, text_without_shortfall, SmallNumber, SmallRing, SmallGroup, SmallGroups, SmallInner, Small, Spells}
use Rattle.pressure.specs.declared.Order.{Order}
use Rattle.answer.specs.declared.Refusal.{Refusal}
use Rattle.reading.specs.Answering.{answer_form}
use Rattle.reading.specs.Reading.{Shown, wall_in, wind_in, group_in, cases_in, spaced, shortfall, shown, wind, ring, group, groups, pressure, inner, line, form_of}

-- ---- the parts

format_spaced : Format SmallNumber EndsWord (λ n. ascii " " ++ decimal n) spaced
format_spaced = format_before (ascii " ") format_number

-- d after a space, or no bytes
abbrev shortfall_text : Option ℕ → List ℕ
shortfall_text (Some d) = ascii " " ++ decimal d
shortfall_text None = []

abbrev SmallShortfall : Option ℕ → Type 0
SmallShortfall (Some d) = SmallNumber d
SmallShortfall None = Unit {0}

-- what may stand after it: no further number
abbrev AfterWall : List ℕ → Type 0
AfterWall rest = EndsWord rest × (spaced rest ≡ None)

format_shortfall : Format SmallShortfall AfterWall shortfall_text shortfall
unfolding shortfall
format_shortfall = format_optional Some None kinds tt refl format_spaced
  where
    kinds : Kinds {A = ℕ} {C = Option ℕ} Some (λ (u : Unit {0}). None)
    kinds (Some n) = inl (n, refl)
    kinds None = inr (tt, refl)

-- what a line shows of a wall
abbrev SmallShown : Shown → Type 0
SmallShown (r, (t, (l, (E, (fy, (edges, (a, d))))))) =
    SmallNumber r × (SmallNumber t × (SmallNumber l × (SmallNumber E × (SmallNumber fy × (SmallNumber edges × (SmallNumber a × SmallShortfall d))))))

abbrev shown_text : Shown → List ℕ
shown_text p = seven_text (wall_in p) ++ shortfall_text p.1.1.1.1.1.1.1

format_shown : Format SmallShown AfterWall shown_text shown
unfolding shown
format_shown =
    format_as (λ p h. h) (λ p h. h) (λ rest follows. follows) (λ p. simp append_assoc)
    (format_sequence format_number
    (format_sequence format_spaced
    (format_sequence format_spaced
    (format_sequence format_spaced
    (format_sequence format_spaced
    (format_sequence format_spaced
    (format_sequence format_spaced format_shortfall last)
    (λ b rest small follows. refl))
    (λ b rest small follows. refl))
    (λ b rest small follows. refl))
    (λ b rest small follows. refl))
    (λ b rest small follows. refl))
    (λ b rest small follows. refl))
  where
    last : (d : Option ℕ) (rest : List ℕ) → SmallShortfall d → AfterWall rest → EndsWord (shortfall_text d ++ rest)
    last (Some d) rest small follows = refl
    last None rest small follows = follows.0

-- σφ or wind, after a space
format_wind : Format (λ p. SmallNumber p.0 × SmallNumber p.1) Always (λ p. ascii " " ++ ring_text (wind_in p)) wind
unfolding wind
format_wind =
    format_as (λ p h. h) (λ p h. h) (λ rest follows. follows) (λ p. simp append_assoc)
    (format_sequence (format_before (ascii " (wind ") format_number) (format_closed (ascii ")") (λ rest. refl) format_spaced) (λ b rest small follows. refl))

format_ring : Format SmallRing EndsWord (λ r. ascii " " ++ ring_text r) ring
unfolding ring changed sequence fixed starts_with number up_to number_of plain_start
format_ring =
    format_as (λ r h. h) (λ r h. h) (λ rest follows. (follows, tt)) (λ r. refl)
    (format_one_of Stress wind_in kinds format_spaced format_wind (λ b rest small follows. refl))
  where
    kinds : Kinds Stress wind_in
    kinds (Stress σφ) = inl (σφ, refl)
    kinds (Wind w v) = inr ((w, v), refl)

-- a space stands before the group
pub format_group : Format SmallGroup Always (λ g. ascii " " ++ group_text g) group
unfolding group
format_group =
    format_as (λ g h. (h.0, (h.1, h.2))) (λ g h. (h.0, h.1.0, h.1.1)) (λ rest follows. follows) (λ g. simp append_assoc)
    (format_changed group_in (λ g. (g.axial, (g.ring, g.shear))) (λ g. refl) (λ p. refl)
    (format_sequence (format_before (ascii " (stress ") format_number)
    (format_sequence format_ring (format_closed (ascii ")") (λ rest. refl) format_spaced) (λ b rest small follows. refl))
    (λ b rest small follows. refl)))

-- one to eight groups: what may follow them is no group
abbrev NoGroup : List ℕ → Type 0
NoGroup rest = Unit {0} × (group rest ≡ None)

pub format_groups : Format SmallGroups NoGroup groups_text groups
unfolding groups
format_groups = format_one_to format_group (λ g rest small follows. tt) 8

-- nothing, or a pressure after a space
format_inner : Format SmallInner (λ rest. Always rest × (pressure rest ≡ None)) inner_text inner
unfolding inner pressure
format_inner = format_optional Some None kinds tt refl (format_as (λ p h. h) (λ p h. h) (λ rest follows. follows) (λ p. simp append_assoc) (format_closed (ascii ")") (λ rest. refl) (format_before (ascii " (inner ") format_number)))
  where
    kinds : Kinds {A = ℕ} {C = Option ℕ} Some (λ (u : Unit {0}). None)
    kinds (Some p) = inl (p, refl)
    kinds None = inr (tt, refl)

-- ---- the line

abbrev Line : Type 0
Line = Shown × (List Group × Option ℕ)

abbrev SmallLine : Line → Type 0
SmallLine p = SmallShown p.0 × (SmallGroups p.1.0 × SmallInner p.1.1)

abbrev line_text : Line → List ℕ
line_text p = shell_text (shown_text p.0) p.1.0 p.1.1

-- what may stand after the pressure: no further one, and no group
abbrev AfterInner : List ℕ → Type 0
AfterInner rest = (Always rest × (pressure rest ≡ None)) × (group rest ≡ None)

after_groups : (i : Option ℕ) (rest : List ℕ) → AfterInner rest → NoGroup (inner_text i ++ rest)
unfolding group changed sequence fixed starts_with
after_groups (Some p) rest follows = (tt, refl)
after_groups None rest follows = (tt, follows.1)

after_wall : (gs : List Group) (i : Option ℕ) (rest : List ℕ) → 1 ≤ length gs → AfterWall ((groups_text gs ++ inner_text i) ++ ascii ")" ++ rest)
unfolding changed sequence fixed starts_with number up_to number_of plain_start
after_wall [] i rest some = absurd (omega arith)
after_wall (g ∷ gs) i rest some = (refl, refl)

format_line : Format SmallLine Always line_text line
unfolding line group pressure changed sequence fixed starts_with
format_line =
    format_as (λ p h. h) (λ p h. h) (λ rest follows. follows) (λ p. simp append_assoc)
    (format_sequence (format_before (ascii "(shell ") format_shown)
    (format_closed (ascii ")") (λ rest. ((tt, refl), refl))
    (format_sequence format_groups (format_as (λ i h. h) (λ i h. h) (λ rest follows. follows.0) (λ i. refl) format_inner) (λ i rest small follows. after_groups i rest follows)))
    (λ p rest small follows. after_wall p.0 p.1 rest small.0.0))

-- the numbers of a wall, with such a shortfall shown
abbrev numbers : Wall → Option ℕ → Shown
numbers w d = (w.radius, (w.thickness, (w.length, (w.modulus, (w.yield_stress, (w.edges, (w.imperfection, d)))))))

-- a wall with another shortfall
abbrev lacking : ℕ → Wall → Wall
lacking d w =
    record {
      radius = w.radius;
      thickness = w.thickness;
      length = w.length;
      modulus = w.modulus;
      yield_stress = w.yield_stress;
      edges = w.edges;
      imperfection = w.imperfection;
      shortfall = d;
    }

-- the text with d shows d, and that without shows none
shows_some : (c : LoadCases) → text c ≡ line_text (numbers c.wall (Some c.wall.shortfall), (c.groups, c.inner))
unfolding text
shows_some c = ap (λ (x : List ℕ). shell_text x c.groups c.inner) (append_assoc (seven_text c.wall) (ascii " ") (decimal c.wall.shortfall))

shows_none : (c : LoadCases) → text_without_shortfall c ≡ line_text (numbers c.wall None, (c.groups, c.inner))
unfolding text_without_shortfall
shows_none c = ap (λ (x : List ℕ). shell_text x c.groups c.inner) (sym (append-nil (seven_text c.wall)))

module _ (l : List ℕ) where
  abbrev Shows : Line → Type 0
  Shows p = SmallLine p × (l ≡ line_text p)

  -- a line spells the load cases of what it shows
  spells_shown : (p : Line) → Shows p → Spells l (cases_in p)
  unfolding Spells Small
  spells_shown ((_, (_, (_, (_, (_, (_, (_, Some _))))))), _) (((r, (t, (n, (E, (fy, (edges, (a, d))))))), (gs, i)), is) =
      (((r, t, n, E, fy, edges, a, d), gs, i), inl (is ∙ sym (shows_some _)))
  spells_shown ((r, (t, (n, (E, (fy, (edges, (a, None))))))), q) (((r', (t', (n', (E', (fy', (edges', (a', _))))))), (gs, i)), is) =
      (((r', t', n', E', fy', edges', a', lit< tt), gs, i), inr (refl, is ∙ sym (shows_none (cases_in ((r, (t, (n, (E, (fy, (edges, (a, None))))))), q)))))

  -- and where it spells load cases, it shows what means them
  shows_spelt : (c : LoadCases) → Spells l c → (p : Line) × (Shows p × (cases_in p ≡ c))
  unfolding Spells Small
  shows_spelt c (((r, t, n, E, fy, edges, a, d), gs, i), inl is) =
      ((numbers c.wall (Some c.wall.shortfall), (c.groups, c.inner)), ((((r, (t, (n, (E, (fy, (edges, (a, d))))))), (gs, i)), is ∙ shows_some c), refl))
  shows_spelt c (((r, t, n, E, fy, edges, a, d), gs, i), inr (none, is)) = (
    (numbers c.wall None, (c.groups, c.inner)),
    ((((r, (t, (n, (E, (fy, (edges, (a, tt))))))), (gs, i)), is ∙ shows_none c), λ i. record { wall = lacking (sym none i) c.wall; groups = c.groups; inner = c.inner }),
  )

-- the form of a line: either it spells load cases and is read as they are, or it spells none
pub form_right : (l : List ℕ) → Whole (Spells l) Some None (form_of l)
unfolding form_of
form_right l =
    whole_means cases_in Some None (λ p is. spells_shown l p is) (λ c is. let (p, (shows, means)) = shows_spelt l c is in (p, shows)) (form_of l)
    (format_whole format_line tt (λ p. Some (cases_in p)) None l)

-- ---- what follows

apart : (c : LoadCases) → ◌≡◌ {A = Option LoadCases} (Some c) None → ⊥
apart c e = let z : ◌≡◌ {A = ℕ} 0 1 = cc in omega arith

same : (c d : LoadCases) → Some c ≡ Some d → c ≡ d
same c d e = cc

-- a line that spells load cases is read as they are
pub read_text : (l : List ℕ) (c : LoadCases) → Spells l c → form_of l ≡ Some c
unfolding form_of
read_text l c is =
    let (p, ((small, same), means)) = shows_spelt l c is in
    ap (whole (λ q. Some (cases_in q)) None) (read_whole format_line tt p l small same) ∙ ap Some means

-- and only such a line is
pub text_read : (l : List ℕ) (c : LoadCases) → form_of l ≡ Some c → Spells l c
text_read l c e = whole_spells apart same (form_of l) (form_right l) c e

-- a line is none exactly if it spells none
pub other_text : (l : List ℕ) → (form_of l ≡ None) ↔ ((c : LoadCases) → Spells l c → ⊥)
other_text l = (λ e. whole_none apart (form_of l) (form_right l) e, λ without. none_whole (form_of l) (form_right l) without)

-- and then it is refused by 5, and by no other number
pub refused_five : (o : Order) (l : List ℕ) → form_of l ≡ None → answer_form o (form_of l) ≡ Err Refusal.Form
refused_five o l e = rw e refl

-- a line spells no two
pub spells_once : (l : List ℕ) (c d : LoadCases) → Spells l c → Spells l d → c ≡ d
spells_once l c d is is' = same c d (sym (read_text l c is) ∙ read_text l d is')

-- no two have the same text
pub text_injective : (c d : LoadCases) → Small c → Small d → text c ≡ text d → c ≡ d
unfolding Spells
text_injective c d small small' e = spells_once (text c) c d (small, inl refl) (small', inl e)

-- a blank line spells none
pub blank_spells : (c : LoadCases) → Spells [] c → ⊥
unfolding Spells text text_without_shortfall
blank_spells c (small, inl e) = let z : ◌≡◌ {A = ℕ} 0 1 = cc in omega arith
blank_spells c (small, inr (zero, e)) = let z : ◌≡◌ {A = ℕ} 0 1 = cc in omega arith

-- a line has one to eight load cases
pub spells_some : (l : List ℕ) (c : LoadCases) → Spells l c → 1 ≤ length c.groups
unfolding Spells Small
spells_some l c is = is.0.1.0

pub spells_few : (l : List ℕ) (c : LoadCases) → Spells l c → length c.groups ≤ 8
unfolding Spells Small
spells_few l c is = is.0.1.1

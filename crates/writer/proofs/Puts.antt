-- What the parts of a line put, one after the other. Assumes nothing.
use mathlib.Core.Path.{◌≡◌, sym, ap, ◌∙◌}
use Prim.Native.Nat.{ℕ, zero, suc, ◌+◌, ◌≤◌, ◌<◌}
use native.Mathlib.Numerals.{add-one}
use native.Mathlib.Omega.{arith}
use mathlib.Core.List.{List, [], ◌∷◌, ◌++◌, append_assoc, append-nil}
use lib.ListN.{length, take, get_or, length-append}
use lib.Seq.{take-suc}
use Rattle.text.specs.Bytes.{ascii, decimal, spaced}
use Rattle.text.specs.Pages.{Fits, Puts}
use Rattle.text.specs.declared.Page.{Page}
use Rattle.text.proofs.Laws.{puts_then, puts_as}
use Rattle.record.specs.declared.Wall.{Wall}
use Rattle.record.specs.declared.Group.{Group}
use Rattle.cases.specs.Cases.{LoadCases}
use Rattle.cases.specs.Answering.{no_group}
use Rattle.reading.specs.Text.{wall_text, ring_text, groups_text, inner_text, text}
use Rattle.writer.specs.Writing.{line_of}
use Rattle.record.specs.declared.Ring.TheVariants.{Wind}
use Rattle.writer.specs.Writer.{spaced_group, pressure_text}

pub wall_length : (w : Wall) → length (wall_text w)
    ≡ 7 + length (decimal w.radius) + length (decimal w.thickness) + length (decimal w.length) + length (decimal w.modulus) + length (decimal w.yield_stress)
    + length (decimal w.edges) + length (decimal w.imperfection) + length (decimal w.shortfall)
wall_length w = simp length-append (omega arith)

pub wind_length : (w v : ℕ) → length (ring_text (Wind w v)) ≡ 8 + length (decimal w) + length (decimal v)
wind_length w v = simp length-append (omega arith)

pub group_length : (g : Group) → length (spaced_group g) ≡ 12 + length (decimal g.axial) + length (ring_text g.ring) + length (decimal g.shear)
group_length g = simp length-append (omega arith)

pub pressure_length : (p : ℕ) → length (pressure_text p) ≡ 9 + length (decimal p)
pressure_length p = simp length-append (omega arith)

pub line_length : (c : LoadCases) → length (line_of c) ≡ 9 + length (wall_text c.wall) + length (groups_text c.groups) + length (inner_text c.inner)
unfolding text
line_length c = simp length-append (omega arith)

-- ---- the parts joined are the text

pub wall_joined : (w : Wall)
    → decimal w.radius ++ spaced w.thickness ++ spaced w.length ++ spaced w.modulus ++ spaced w.yield_stress ++ spaced w.edges ++ spaced w.imperfection ++ spaced w.shortfall ≡ wall_text w
wall_joined w = simp append_assoc

pub wind_joined : (w v : ℕ) → ascii "(wind " ++ decimal w ++ spaced v ++ ascii ")" ≡ ring_text (Wind w v)
wind_joined w v = simp append_assoc

pub group_joined : (g : Group) → ascii " (stress " ++ decimal g.axial ++ ascii " " ++ ring_text g.ring ++ spaced g.shear ++ ascii ")" ≡ spaced_group g
group_joined g = parts (ascii " ") (ascii "(stress ") (decimal g.axial) (ring_text g.ring) (decimal g.shear) (ascii ")")
  where
    parts : (b p a r s q : List ℕ) → (b ++ p) ++ a ++ b ++ r ++ (b ++ s) ++ q ≡ b ++ (p ++ a ++ b ++ r ++ b ++ s ++ q)
    parts b p a r s q = simp append_assoc

pub pressure_joined : (p : ℕ) → ascii " (inner " ++ decimal p ++ ascii ")" ≡ pressure_text p
pressure_joined p = simp append_assoc

pub line_joined : (c : LoadCases) → ascii "(shell " ++ wall_text c.wall ++ groups_text c.groups ++ inner_text c.inner ++ ascii ")\n" ≡ line_of c
unfolding text
line_joined c = simp append_assoc

-- ---- the groups, one after the other

groups_append : (gs : List Group) (g : Group) → groups_text (gs ++ (g ∷ [])) ≡ groups_text gs ++ spaced_group g
groups_append [] g = append-nil (spaced_group g)
groups_append (h ∷ hs) g = ap (λ (l : List ℕ). spaced_group h ++ l) (groups_append hs g) ∙ sym (append_assoc (spaced_group h) (groups_text hs) (spaced_group g))

groups_next : (gs : List Group) (i : ℕ) → i < length gs → groups_text (take i gs) ++ spaced_group (get_or gs i no_group) ≡ groups_text (take (i + 1) gs)
groups_next gs i there =
    sym (ap (λ (n : ℕ). groups_text (take n gs)) (add-one i) ∙ ap groups_text (take-suc gs i no_group there) ∙ groups_append (take i gs) (get_or gs i no_group))

-- the first of them are no longer than all
groups_part : (gs : List Group) (i : ℕ) → length (groups_text (take i gs)) ≤ length (groups_text gs)
groups_part gs zero = omega arith
groups_part [] (suc i) = omega arith
groups_part (g ∷ gs) (suc i) = omega (arith, length-append (spaced_group g) (groups_text (take i gs)), length-append (spaced_group g) (groups_text gs), groups_part gs i)

module _ {p q : Page} (gs : List Group) (i : ℕ) (there : i < length gs) (so_far : Puts p (groups_text (take i gs)) q) where
  -- the next group has its room
  pub group_fits : Fits p (groups_text gs) → Fits q (spaced_group (get_or gs i no_group))
  group_fits room =
      omega (arith, so_far.at, so_far.size, groups_part gs (i + 1), ap length (groups_next gs i there), length-append (groups_text (take i gs)) (spaced_group (get_or gs i no_group)), room)

  pub group_puts : {r : Page} → Puts q (spaced_group (get_or gs i no_group)) r → Puts p (groups_text (take (i + 1) gs)) r
  group_puts w = puts_as (groups_next gs i there) (puts_then so_far w)

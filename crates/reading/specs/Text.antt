-- SCOPE 7.4 to 7.6, 20.1, 20.2, 22.1, 25.1 and 26.1: the lines that spell the load cases of a shell.
use Rattle.std.specs.Prelude.{ℕ, ◌≤◌, ◌<◌, ◌≡◌, ◌⊎◌, List, [], ◌++◌, length, Option, Some, None}
use Rattle.text.specs.Bytes.{ascii, decimal}
use Rattle.format.specs.Texts.{Each, each}
use Rattle.record.specs.declared.Wall.{Wall}
use Rattle.record.specs.declared.Ring.{Ring}
use Rattle.record.specs.declared.Ring.TheVariants.{Stress, Wind}
use Rattle.record.specs.declared.Group.{Group}
use Rattle.cases.specs.Cases.{LoadCases}

-- r t l E fy edges a: one space between items, numbers in decimal without leading zeros
abbrev pub seven_text : Wall → List ℕ
seven_text w =
    decimal w.radius
    ++ ascii " " ++ decimal w.thickness
    ++ ascii " " ++ decimal w.length
    ++ ascii " " ++ decimal w.modulus
    ++ ascii " " ++ decimal w.yield_stress
    ++ ascii " " ++ decimal w.edges
    ++ ascii " " ++ decimal w.imperfection

-- and d
abbrev pub wall_text : Wall → List ℕ
wall_text w = seven_text w ++ ascii " " ++ decimal w.shortfall

-- σφ, or (wind w v)
abbrev pub ring_text : Ring → List ℕ
ring_text (Stress σφ) = decimal σφ
ring_text (Wind w v) = ascii "(wind " ++ decimal w ++ ascii " " ++ decimal v ++ ascii ")"

-- (stress σx RING τ)
abbrev pub group_text : Group → List ℕ
group_text g = ascii "(stress " ++ decimal g.axial ++ ascii " " ++ ring_text g.ring ++ ascii " " ++ decimal g.shear ++ ascii ")"

-- nothing, or (inner p) after a space
abbrev pub inner_text : Option ℕ → List ℕ
inner_text None = []
inner_text (Some p) = ascii " (inner " ++ decimal p ++ ascii ")"

-- GROUPS: each after a space
abbrev pub groups_text : List Group → List ℕ
groups_text gs = each (λ g. ascii " " ++ group_text g) gs

-- (shell NUMBERS GROUPS), and INNER before the last bracket, with its own space
abbrev pub shell_text : List ℕ → List Group → Option ℕ → List ℕ
shell_text numbers gs i = ascii "(shell " ++ numbers ++ groups_text gs ++ inner_text i ++ ascii ")"

-- (shell r t l E fy edges a d GROUPS), with INNER
unfoldable pub text : LoadCases → List ℕ
text c = shell_text (wall_text c.wall) c.groups c.inner

-- (shell r t l E fy edges a GROUPS), with INNER
unfoldable pub text_without_shortfall : LoadCases → List ℕ
text_without_shortfall c = shell_text (seven_text c.wall) c.groups c.inner

-- ---- each number has at most 7 digits

abbrev pub SmallNumber : ℕ → Type 0
SmallNumber n = n < 10000000

abbrev pub SmallWall : Wall → Type 0
SmallWall w =
    SmallNumber w.radius
    × SmallNumber w.thickness
    × SmallNumber w.length
    × SmallNumber w.modulus
    × SmallNumber w.yield_stress
    × SmallNumber w.edges
    × SmallNumber w.imperfection
    × SmallNumber w.shortfall

abbrev pub SmallRing : Ring → Type 0
SmallRing (Stress σφ) = SmallNumber σφ
SmallRing (Wind w v) = SmallNumber w × SmallNumber v

abbrev pub SmallGroup : Group → Type 0
SmallGroup g = SmallNumber g.axial × SmallRing g.ring × SmallNumber g.shear

abbrev pub SmallInner : Option ℕ → Type 0
SmallInner None = Unit {0}
SmallInner (Some p) = SmallNumber p

-- one to eight groups
abbrev pub SmallGroups : List Group → Type 0
SmallGroups gs = (1 ≤ length gs) × (length gs ≤ 8) × Each SmallGroup gs

unfoldable pub Small : LoadCases → Type 0
Small c = SmallWall c.wall × SmallGroups c.groups × SmallInner c.inner

-- the line l spells the load cases c, whose numbers have at most 7 digits: it is the text of c or, where d is 0, the text without d
unfoldable pub Spells : List ℕ → LoadCases → Type 0
unfolding text text_without_shortfall Small
Spells l c = Small c × ((l ≡ text c) ⊎ ((c.wall.shortfall ≡ 0) × (l ≡ text_without_shortfall c)))

-- How the program reads a line. Nobody has to believe this: `form_right` (proofs/Inverse.antt) says what `form_of` gives.
use Rattle.std.specs.Prelude.{ℕ, List, Option, Some, None}
use Rattle.text.specs.Bytes.{ascii}
use Rattle.format.specs.Readers.{Reader, number, sequence, changed, one_of, one_to, before, closed, optional, whole}
use Rattle.record.specs.declared.Wall.{Wall}
use Rattle.record.specs.declared.Ring.{Ring}
use Rattle.record.specs.declared.Ring.TheVariants.{Stress, Wind}
use Rattle.record.specs.declared.Group.{Group}
use Rattle.cases.specs.Cases.{LoadCases}

-- ---- load cases of their parts in the order of a line

-- a number that may be missing, and then is 0
abbrev pub or_zero : Option ℕ → ℕ
or_zero (Some n) = n
or_zero None = 0

-- what a line shows of a wall: seven numbers, and d or nothing
abbrev pub Shown : Type 0
Shown = ℕ × (ℕ × (ℕ × (ℕ × (ℕ × (ℕ × (ℕ × Option ℕ))))))

abbrev pub wall_in : Shown → Wall
wall_in p =
    record {
      radius = p.0;
      thickness = p.1.0;
      length = p.1.1.0;
      modulus = p.1.1.1.0;
      yield_stress = p.1.1.1.1.0;
      edges = p.1.1.1.1.1.0;
      imperfection = p.1.1.1.1.1.1.0;
      shortfall = or_zero p.1.1.1.1.1.1.1;
    }

abbrev pub wind_in : ℕ × ℕ → Ring
wind_in p = Wind p.0 p.1

abbrev pub group_in : ℕ × (Ring × ℕ) → Group
group_in p = record { axial = p.0; ring = p.1.0; shear = p.1.1 }

abbrev pub cases_in : Shown × (List Group × Option ℕ) → LoadCases
cases_in p = record { wall = wall_in p.0; groups = p.1.0; inner = p.1.1 }

-- ---- the readers

-- a number after a space
abbrev pub spaced : Reader ℕ
spaced = before (ascii " ") number

-- d after a space, or no bytes
unfoldable pub shortfall : Reader (Option ℕ)
shortfall = optional Some None spaced

unfoldable pub shown : Reader Shown
shown = sequence number (sequence spaced (sequence spaced (sequence spaced (sequence spaced (sequence spaced (sequence spaced shortfall))))))

-- w and v of (wind w v), after a space
unfoldable pub wind : Reader (ℕ × ℕ)
wind = sequence (before (ascii " (wind ") number) (closed spaced (ascii ")"))

-- σφ or wind, after a space
unfoldable pub ring : Reader Ring
ring = one_of Stress wind_in spaced wind

-- a group after a space
unfoldable pub group : Reader Group
group = changed group_in (sequence (before (ascii " (stress ") number) (sequence ring (closed spaced (ascii ")"))))

-- one to eight groups
unfoldable pub groups : Reader (List Group)
groups = one_to 8 group

-- p of (inner p), after a space
unfoldable pub pressure : Reader ℕ
pressure = closed (before (ascii " (inner ") number) (ascii ")")

-- (inner p) after a space, or no bytes
unfoldable pub inner : Reader (Option ℕ)
inner = optional Some None pressure

unfoldable pub line : Reader (Shown × (List Group × Option ℕ))
line = sequence (before (ascii "(shell ") shown) (closed (sequence groups inner) (ascii ")"))

-- the load cases that a line spells, or none
unfoldable pub form_of : List ℕ → Option LoadCases
form_of l = whole (λ p. Some (cases_in p)) None (line l)

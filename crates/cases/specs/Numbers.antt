-- SCOPE 26.8: load cases as a list of numbers, as a call from C is lent them.
use Rattle.std.specs.Prelude.{ℕ, zero, suc, ◌+◌, ◌*◌, ◌/◌, ◌%◌, List, [], ◌∷◌, ◌++◌, length, get_or, eqb, Option, None, Some}
use Rattle.algebra.specs.Choice.{pick}
use Rattle.record.specs.declared.Ring.{Ring}
use Rattle.record.specs.declared.Ring.TheVariants.{Stress, Wind}
use Rattle.record.specs.declared.Group.{Group}
use Rattle.cases.specs.Cases.{LoadCases}

-- kind 0 is a ring stress of x; any other is wind, with w = x and v = y
abbrev pub ring_from : ℕ → ℕ → ℕ → Ring
ring_from kind x y = pick (eqb kind 0) (Stress x) (Wind x y)

-- five numbers for each load case: σx, kind, x, y, τ; that at place i, counted from 0
abbrev pub group_from : List ℕ → ℕ → Group
group_from ns i =
    record {
      axial = get_or ns (5 * i) 0;
      ring = ring_from (get_or ns (5 * i + 1) 0) (get_or ns (5 * i + 2) 0) (get_or ns (5 * i + 3) 0);
      shear = get_or ns (5 * i + 4) 0;
    }

-- the first k of them
abbrev pub first_from : List ℕ → ℕ → List Group
first_from ns zero = []
first_from ns (suc k) = first_from ns k ++ (group_from ns k ∷ [])

-- all; none, where the numbers are not in fives
abbrev pub groups_from : List ℕ → List Group
groups_from ns = pick (eqb (length ns % 5) 0) (first_from ns (length ns / 5)) []

-- a pressure inside, or none
abbrev pub inner_from : ℕ → ℕ → Option ℕ
inner_from has p = pick (eqb has 0) None (Some p)

-- the load cases of their parts in the order of the call
abbrev pub cases_from : ℕ → ℕ → ℕ → ℕ → ℕ → ℕ → ℕ → ℕ → List Group → Option ℕ → LoadCases
cases_from r t l E fy edges a d gs i =
    record {
      wall =
          record {
            radius = r;
            thickness = t;
            length = l;
            modulus = E;
            yield_stress = fy;
            edges = edges;
            imperfection = a;
            shortfall = d;
          };
      groups = gs;
      inner = i;
    }

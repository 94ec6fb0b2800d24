-- The curves of Resistance in whole numbers: the branches in which a slenderness lies, and the factors of the resistance in them.
-- Nobody has to believe this: proofs/Curves.antt has that they are those curves.
use Rattle.std.specs.Prelude.{ℕ, ◌-◌, Bool, true, false}
use Rattle.algebra.specs.Choice.{pick}
use Rattle.cylinder.specs.Cut.{Cut}
use Rattle.cylinder.specs.Factor.{Factor, constant, falling, inverse, divided, times}

pub data Part : Type 0 where
  plateau : Part
  line : Part
  cubic : Part
  quadratic : Part

-- κ1, for ring stress and shear
abbrev pub part1 : Cut → Part
part1 s = pick (s.within 4 10) plateau (pick (s.reaches 12 10) quadratic line)

abbrev pub reduction1 : Part → Factor
reduction1 plateau = constant 1 1
reduction1 line = falling 1274 686 1000
reduction1 cubic = constant 1 1
reduction1 quadratic = inverse 2 65 100

-- κ2, for axial stress
abbrev pub part2 : Cut → Part
part2 s = pick (s.within 25 100) plateau (pick (s.within 1 1) line (pick (s.within 15 10) cubic quadratic))

abbrev pub reduction2 : Part → Factor
reduction2 plateau = constant 1 1
reduction2 line = falling 1233 933 1000
reduction2 cubic = inverse 3 30 100
reduction2 quadratic = inverse 2 20 100

-- the tolerance at an excess of e thousandths over the permitted imperfection
abbrev pub long : Cut → Bool
long s = s.reaches 15 10

abbrev pub tolerance_factor : Bool → ℕ → Factor
tolerance_factor false e = falling 3000 e 3000
tolerance_factor true e = constant (2000 - e) 2000

-- 11/10 over the partial factor for axial stress
abbrev pub safety : Bool → Bool → Factor
safety true far = constant 1 1
safety false true = constant 22 29
safety false false = divided 6682 1272 7000

abbrev pub factor1 : Cut → ℕ → Factor
factor1 s e = times (reduction1 (part1 s)) (tolerance_factor (long s) e)

abbrev pub factor2 : Cut → ℕ → Factor
factor2 s e = times (times (reduction2 (part2 s)) (tolerance_factor (long s) e)) (safety (s.within 25 100) (s.reaches 2 1))

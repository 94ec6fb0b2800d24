-- SCOPE 26.5: the load case that governs a line.
use Rattle.std.specs.Prelude.{ℕ, Bool, List, [], ◌∷◌, ltb}
use Rattle.algebra.specs.Choice.{pick}
use Rattle.answer.specs.declared.Verdict.{Verdict}
use Rattle.answer.specs.declared.Verdict.TheVariants.{Holds, Open, Fails}
use Rattle.answer.specs.declared.Judgement.{Judgement}

-- fails is the worst verdict, then open, then holds
abbrev pub severity_of : Verdict → ℕ
severity_of Holds = 0
severity_of Open = 1
severity_of Fails = 2

-- the second of two has a worse verdict
abbrev pub is_worse : Judgement → Judgement → Bool
is_worse j k = ltb (severity_of j.verdict) (severity_of k.verdict)

-- the first of two, unless the second has a worse verdict
abbrev pub worse_of : Judgement → Judgement → Judgement
worse_of j k = pick (is_worse j k) k j

-- so of many the first with the worst verdict
abbrev pub governing : Judgement → List Judgement → Judgement
governing j [] = j
governing j (k ∷ ks) = governing (worse_of j k) ks

-- SCOPE 10 and 11.1: checks in the order in which they are made. The first check broken is first by its place in the list, not by its number in the table,
-- since a later check may have a place before an earlier one.
use Rattle.std.specs.Prelude.{◌≡◌, Bool, true, false, ◌⊎◌, List, [], ◌∷◌}
use Rattle.answer.specs.declared.Refusal.{Refusal}

-- a check: how it refuses, and whether it is passed
pub record Check : Type 0 where
  pub refusal : Refusal
  pub passed : Bool

abbrev pub check : Refusal → Bool → Check
check r b = record { refusal = r; passed = b }

-- the first check that is broken refuses by r: the check at the head is broken and does, or is passed, and the first one behind it does
abbrev pub FirstBroken : List Check → Refusal → Type 0
FirstBroken [] r = ⊥
FirstBroken (k ∷ ks) r = ((k.passed ≡ false) × (k.refusal ≡ r)) ⊎ ((k.passed ≡ true) × FirstBroken ks r)

-- no check is broken
abbrev pub AllPassed : List Check → Type 0
AllPassed [] = Unit {0}
AllPassed (k ∷ ks) = (k.passed ≡ true) × AllPassed ks

-- A list of groups in eight places: which groups there are tells what all places hold. Nobody has to believe this: contracts see the list.
use Rattle.std.specs.Prelude.{ℕ, ◌-◌, ◌≤◌, ◌≡◌, List, ◌++◌, length, take, drop, replicate}
use Rattle.std.proofs.Common.{sym, ap, ◌∙◌, subst, take-append-drop, length-take-le}
use Rattle.record.specs.declared.Ring.TheVariants.{Stress}
use Rattle.record.specs.declared.Group.{Group}

-- a load case without stress
abbrev pub no_group : Group
no_group = record { axial = 0; ring = Stress 0; shear = 0 }

-- what stands behind so many groups
abbrev pub unused : ℕ → List Group
unused count = replicate (8 - count) no_group

pub record Held (places : List Group) (count : ℕ) : Type 0 where
  pub few : count ≤ 8
  pub eight : length places ≡ 8
  pub behind : drop count places ≡ unused count

module _ (places : List Group) (count : ℕ) (held : Held places count) where
  pub taken : length (take count places) ≡ count
  taken = length-take-le count places (subst (λ (n : ℕ). count ≤ n) (sym held.eight) held.few)

  pub given_back : take count places ++ unused (length (take count places)) ≡ places
  given_back = ap (λ (l : List Group). take count places ++ l) (ap unused taken ∙ sym held.behind) ∙ take-append-drop count places

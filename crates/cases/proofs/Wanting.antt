-- What load cases need, one after the other; and what is worked for all serves each. Assumes nothing.
use mathlib.Core.Path.{◌≡◌, refl, sym, ap, ◌∙◌, subst}
use mathlib.Core.Bool.{Bool, true, false, ◌||◌}
use mathlib.Core.Logic.{◌⊎◌, inl, inr, ⊎_elim}
use mathlib.Core.List.{List, [], ◌∷◌, ◌++◌}
use Prim.Native.Nat.{ℕ, zero, suc, ◌+◌, ◌≤◌, ◌<◌}
use native.Mathlib.Numerals.{add-one}
use native.Mathlib.Omega.{arith}
use lib.ListN.{length, take, get_or}
use lib.Dec.{ltb}
use lib.Seq.{take-suc}
use borrow.Author.Tests.{lt-ltb}
use Rattle.cylinder.specs.declared.ByStress.{ByStress}
use Rattle.record.specs.declared.Ring.{Ring}
use Rattle.record.specs.declared.Group.{Group}
use Rattle.record.specs.Answering.{has_ring, has_load}
use Rattle.record.proofs.Loads.{load_is_ring}
use Rattle.answer.specs.Checks.{AllPassed}
use Rattle.record.specs.Limits.{checks}
use Rattle.cases.specs.Cases.{LoadCases, alone, case_checks, At}
use Rattle.cases.proofs.Right.{alone_passed}
use Rattle.cases.specs.Answering.{no_group, ServedFor, WantedBy, NeededBy}

-- a group of a list with one more is one of the list, or that one
pub at_next : (gs : List Group) (h : Group) (m : ℕ) (g : Group) → At (gs ++ (h ∷ [])) m g → At gs m g ⊎ (g ≡ h)
at_next [] h (suc m) g e = elim e [ ]
at_next [] h zero g e = inr e
at_next (i ∷ is) h zero g e = inl e
at_next (i ∷ is) h (suc m) g at = at_next is h m g at

or_left : (a b : Bool) → a ≡ true → a || b ≡ true
or_left true b e = refl
or_left false b e = cc

or_right : (a b : Bool) → b ≡ true → a || b ≡ true
or_right true b e = refl
or_right false b e = e

module _ (matters : Ring → Bool) where
  -- what one more load case needs besides
  abbrev pub served_too : ByStress Bool → Group → ByStress Bool
  served_too w g = record { axial = w.axial || ltb 0 g.axial; ring = w.ring || matters g.ring; shear = w.shear || ltb 0 g.shear }

  served_before : (g h : Group) (w : ByStress Bool) → ServedFor matters g w → ServedFor matters g (served_too w h)
  served_before g h w k =
      record { axial_is = λ n. or_left _ _ (k.axial_is n); ring_is = λ n. or_left _ _ (k.ring_is n); shear_is = λ n. or_left _ _ (k.shear_is n) }

  served_here : (g : Group) (w : ByStress Bool) → ServedFor matters g (served_too w g)
  served_here g w =
      record {
        axial_is = λ n. or_right w.axial (ltb 0 g.axial) (lt-ltb 0 g.axial n);
        ring_is = λ n. or_right w.ring (matters g.ring) n;
        shear_is = λ n. or_right w.shear (ltb 0 g.shear) (lt-ltb 0 g.shear n);
      }

  pub served_step : (gs : List Group) (i : ℕ) (w r : ByStress Bool) → i < length gs → ((m : ℕ) (g : Group) → At (take i gs) m g → ServedFor matters g w) →
      r ≡ served_too w (get_or gs i no_group) → (m : ℕ) (g : Group) → At (take (i + 1) gs) m g → ServedFor matters g r
  served_step gs i w r there all e m g at =
      subst (ServedFor matters g) (sym e)
      (⊎_elim (λ before. served_before g h w (all m g before)) (λ here. subst (λ (x : Group). ServedFor matters x (served_too w h)) (sym here) (served_here h w))
      (at_next (take i gs) h m g (subst (λ (l : List Group). At l m g) (ap (λ (n : ℕ). take n gs) (add-one i) ∙ take-suc gs i no_group there) at)))
    where
      h : Group
      h = get_or gs i no_group

-- what one more load case may need besides: any wind matters
abbrev pub wanted_too : ByStress Bool → Group → ByStress Bool
wanted_too w g = served_too has_ring w g

pub wanted_step : (gs : List Group) (i : ℕ) (w r : ByStress Bool) → i < length gs → WantedBy (take i gs) w → r ≡ wanted_too w (get_or gs i no_group) → WantedBy (take (i + 1) gs) r
wanted_step gs i w r there all e = served_step has_ring gs i w r there all e

-- what it needs: only wind of a gust above 0 matters
abbrev pub needed_too : ByStress Bool → Group → ByStress Bool
needed_too w g = served_too has_load w g

pub needed_step : (gs : List Group) (i : ℕ) (w r : ByStress Bool) → i < length gs → NeededBy (take i gs) w → r ≡ needed_too w (get_or gs i no_group) → NeededBy (take (i + 1) gs) r
needed_step gs i w r there all e = served_step has_load gs i w r there all e

-- what is wanted for any wind serves as what is needed
pub wanted_needed : (gs : List Group) (w : ByStress Bool) → WantedBy gs w → NeededBy gs w
wanted_needed gs w all m g at =
    let k = all m g at in
    record { axial_is = k.axial_is; ring_is = λ n. k.ring_is (load_is_ring g.ring n); shear_is = k.shear_is }

-- the group at a place of a list
pub there_at : (gs : List Group) (i : ℕ) → i < length gs → At gs i (get_or gs i no_group)
there_at [] i none = absurd (omega arith)
there_at (g ∷ gs) zero _ = refl
there_at (g ∷ gs) (suc i) there = there_at gs i (omega arith)

-- where a line breaks no check, its first load case breaks none on a line of its own
pub first_passed : (c : LoadCases) → 1 ≤ length c.groups → AllPassed (case_checks c) → AllPassed (checks (alone c (get_or c.groups 0 no_group)))
first_passed c some all = alone_passed c all 0 (get_or c.groups 0 no_group) (there_at c.groups 0 some)

-- A load case that stands for all in checks 6 and 13, and so is refused on a line of its own as they are together. Assumes nothing.
use mathlib.Core.Path.{◌≡◌, refl, sym, ap, ◌∙◌, subst}
use mathlib.Core.Bool.{Bool, true, false, ◌&&◌}
use mathlib.Core.List.{List, [], ◌∷◌, ◌++◌}
use Prim.Native.Nat.{ℕ, suc, ◌+◌, ◌<◌}
use native.Mathlib.Numerals.{add-one}
use native.Mathlib.Omega.{arith}
use lib.ListN.{length, take, get_or}
use lib.Seq.{take-suc}
use Rattle.algebra.proofs.Tests.{and_true, both_true, and_on, and_off, clash}
use Rattle.std.specs.Prelude.{Result}
use Rattle.answer.specs.declared.Refusal.{Refusal}
use Rattle.answer.specs.Checks.{check}
use Rattle.answer.specs.Answering.{refusal_by}
use Rattle.record.specs.declared.Group.{Group}
use Rattle.record.specs.Limits.{dimensions, material, stresses, edges_known, shortfall_allowed, wall_ratio, length_ratio, tolerated, wind_allowed, pressure_allowed, checks}
use Rattle.cases.specs.Cases.{LoadCases, alone, every, case_checks, At}
use Rattle.cases.specs.Answering.{no_group, Stands, StandsFor}

pub and_right : (b : Bool) → b && true ≡ b
and_right true = refl
and_right false = refl

every_next : (test : Group → Bool) (gs : List Group) (g : Group) → every test (gs ++ (g ∷ [])) ≡ every test gs && test g
every_next test [] g = and_right (test g)
every_next test (h ∷ hs) g = ap (λ (b : Bool). test h && b) (every_next test hs g) ∙ and_assoc (test h) (every test hs) (test g)
  where
    and_assoc : (a b c : Bool) → a && (b && c) ≡ (a && b) && c
    and_assoc true b c = refl
    and_assoc false b c = refl

-- ---- of two

module _ (a b : Group) where
  abbrev Of : Group → Type 0
  Of = Stands (stresses a && stresses b) (wind_allowed a.ring && wind_allowed b.ring)

  pub stands_first : stresses a ≡ false → Of a
  stands_first n = record { stresses_are = n ∙ and_off (stresses b) n; wind_is = λ yes. absurd (clash (and_true (stresses a) (stresses b) yes).0 n) }

  pub stands_second : stresses a ≡ true → stresses b ≡ false → Of b
  stands_second y n = record { stresses_are = and_on y refl; wind_is = λ yes. absurd (clash (and_true (stresses a) (stresses b) yes).1 n) }

  pub stands_later : stresses a ≡ true → wind_allowed a.ring ≡ true → Of b
  stands_later y w = record { stresses_are = and_on y refl; wind_is = λ _. and_on w refl }

  pub stands_earlier : stresses a ≡ true → stresses b ≡ true → wind_allowed a.ring ≡ false → Of a
  stands_earlier y z n = record { stresses_are = y ∙ sym (both_true (stresses a) (stresses b) y z); wind_is = λ _. n ∙ and_off (wind_allowed b.ring) n }

-- ---- of a list that grows

pub stands_one : (g : Group) → StandsFor (g ∷ []) g
stands_one g = record { stresses_are = sym (and_right (stresses g)); wind_is = λ _. sym (and_right (wind_allowed g.ring)) }

pub stands_next : (gs : List Group) (a b r : Group) → StandsFor gs a → Of a b r → StandsFor (gs ++ (b ∷ [])) r
stands_next gs a b r all two =
    record {
      stresses_are = two.stresses_are ∙ six;
      wind_is = λ yes.
          let both = sym six' ∙ yes in
          two.wind_is (six ∙ yes)
          ∙ ap (λ (x : Bool). x && wind_allowed b.ring) (all.wind_is (and_true (every stresses gs) (stresses b) both).0)
          ∙ sym (every_next (λ h. wind_allowed h.ring) gs b);
    }
  where
    six' : every stresses (gs ++ (b ∷ [])) ≡ every stresses gs && stresses b
    six' = every_next stresses gs b

    six : stresses a && stresses b ≡ every stresses (gs ++ (b ∷ []))
    six = ap (λ (x : Bool). x && stresses b) all.stresses_are ∙ sym six'

-- the first groups of a list; before the first, a load case without stress stands for them
pub stands_none : StandsFor [] no_group
stands_none = record { stresses_are = refl; wind_is = λ _. refl }

pub stands_step : (gs : List Group) (i : ℕ) (a r : Group) → i < length gs → StandsFor (take i gs) a → Of a (get_or gs i no_group) r → StandsFor (take (i + 1) gs) r
stands_step gs i a r there all two =
    subst (λ (l : List Group). StandsFor l r) (sym (ap (λ (n : ℕ). take n gs) (add-one i) ∙ take-suc gs i no_group there)) (stands_next (take i gs) a (get_or gs i no_group) r all two)

-- ---- its record is refused as the load cases are

pub stands_refused : (c : LoadCases) (g : Group) → StandsFor c.groups g → refusal_by (checks (alone c g)) ≡ refusal_by (case_checks c)
stands_refused c g s = go (every stresses c.groups) refl
  where
    by : Bool → Bool → Result (Unit {0}) Refusal
    by six thirteen =
        refusal_by
        (check Refusal.Range (dimensions c.wall && (material c.wall && six)) ∷ check Refusal.Edges (edges_known c.wall) ∷ check Refusal.Shortfall (shortfall_allowed c.wall) ∷ check Refusal.WallRatio (wall_ratio c.wall)
        ∷ check Refusal.LengthRatio (length_ratio c.wall) ∷ check Refusal.Imperfection (tolerated c.wall) ∷ check Refusal.Wind thirteen ∷ check Refusal.Pressure (pressure_allowed c.inner) ∷ [])

    off : (a b : Bool) → a && (b && false) ≡ false
    off true true = refl
    off true false = refl
    off false b = refl

    six_only : (x y : Bool) → by false x ≡ by false y
    six_only x y = rw (off (dimensions c.wall) (material c.wall)) refl

    go : (b : Bool) → every stresses c.groups ≡ b → refusal_by (checks (alone c g)) ≡ refusal_by (case_checks c)
    go true e = (λ i. by (s.stresses_are i) (s.wind_is e i))
    go false e =
        ap (λ (x : Bool). by x (wind_allowed g.ring)) (s.stresses_are ∙ e)
        ∙ six_only (wind_allowed g.ring) (every (λ h. wind_allowed h.ring) c.groups)
        ∙ ap (λ (x : Bool). by x (every (λ h. wind_allowed h.ring) c.groups)) (sym e)

-- ---- one of the load cases stands for all

pub stands_some : (gs : List Group) → 0 < length gs → (m : ℕ) × ((g : Group) × (At gs m g × StandsFor gs g))
stands_some [] none = absurd (omega arith)
stands_some (a ∷ []) _ = (0, (a, (refl, stands_one a)))
stands_some (a ∷ h ∷ hs) _ =
    let (m, (b, (at, s))) = stands_some (h ∷ hs) (omega arith) in
    go m b at s (stresses a) refl (stresses b) refl (wind_allowed a.ring) refl
  where
    All : Group → Type 0
    All = StandsFor (a ∷ h ∷ hs)

    -- b stands for those behind a
    all : (b r : Group) → StandsFor (h ∷ hs) b → Of a b r → All r
    all b r s two =
        let six = ap (λ (x : Bool). stresses a && x) s.stresses_are in
        record {
          stresses_are = two.stresses_are ∙ six;
          wind_is = λ yes.
              two.wind_is (six ∙ yes) ∙ ap (λ (x : Bool). wind_allowed a.ring && x) (s.wind_is (and_true (stresses a) (every stresses (h ∷ hs)) yes).1);
        }

    go : (m : ℕ) (b : Group) → At (h ∷ hs) m b → StandsFor (h ∷ hs) b → (x : Bool) → stresses a ≡ x → (y : Bool) → stresses b ≡ y → (w : Bool) → wind_allowed a.ring ≡ w →
        (m : ℕ) × ((g : Group) × (At (a ∷ h ∷ hs) m g × All g))
    go m b at s false e y f w k = (0, (a, (refl, all b a s (stands_first a b e))))
    go m b at s true e false f w k = (suc m, (b, (at, all b b s (stands_second a b e f))))
    go m b at s true e true f true k = (suc m, (b, (at, all b b s (stands_later a b e k))))
    go m b at s true e true f false k = (0, (a, (refl, all b a s (stands_earlier a b e f k))))

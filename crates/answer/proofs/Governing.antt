-- What governs: one of the judgements, with the worst verdict of all, and the first that has it. Assumes nothing.
use mathlib.Core.Path.{◌≡◌, refl, ap, sym, subst}
use mathlib.Core.Bool.{Bool, true, false}
use mathlib.Core.List.{List, [], ◌∷◌}
use Prim.Native.Nat.{ℕ, suc, ◌≤◌, ◌<◌}
use native.Mathlib.Omega.{arith}
use borrow.Author.Tests.{ltb-true, ltb-false}
use Rattle.algebra.specs.Choice.{pick}
use Rattle.answer.specs.declared.Verdict.{Verdict}
use Rattle.answer.specs.declared.Verdict.TheVariants.{Holds, Fails, Open}
use Rattle.answer.specs.declared.Judgement.{Judgement}
use Rattle.answer.specs.Governing.{severity_of, is_worse, worse_of, governing}

-- what holds of both holds of the worse
pub worse_either : (P : Judgement → Type 0) (j k : Judgement) → P j → P k → P (worse_of j k)
worse_either P j k a b = go (is_worse j k) refl
  where
    go : (t : Bool) → is_worse j k ≡ t → P (worse_of j k)
    go true e = rw e b
    go false e = rw e a

-- every judgement of a list
abbrev pub All : (Judgement → Type 0) → List Judgement → Type 0
All P [] = Unit {0}
All P (j ∷ js) = P j × All P js

-- so what holds of all holds of what governs
pub governing_either : (P : Judgement → Type 0) (j : Judgement) (js : List Judgement) → P j → All P js → P (governing j js)
governing_either P j [] a all = a
governing_either P j (k ∷ ks) a (b, all) = governing_either P (worse_of j k) ks (worse_either P j k a b) all

-- neither of two is worse than the worse
worse_most : (j k : Judgement) → (severity_of j.verdict ≤ severity_of (worse_of j k).verdict) × (severity_of k.verdict ≤ severity_of (worse_of j k).verdict)
worse_most j k = go (is_worse j k) refl
  where
    go : (t : Bool) → is_worse j k ≡ t →
        (severity_of j.verdict ≤ severity_of (worse_of j k).verdict) × (severity_of k.verdict ≤ severity_of (worse_of j k).verdict)
    go true e = let lt = ltb-true (severity_of j.verdict) (severity_of k.verdict) e in rw e (omega (arith, lt), omega arith)
    go false e = let le = ltb-false (severity_of j.verdict) (severity_of k.verdict) e in rw e (omega arith, omega (arith, le))

-- none is worse than what governs
pub governing_first : (j : Judgement) (js : List Judgement) → severity_of j.verdict ≤ severity_of (governing j js).verdict
governing_first j [] = omega arith
governing_first j (k ∷ ks) = omega (arith, (worse_most j k).0, governing_first (worse_of j k) ks)

pub governing_worst : (j : Judgement) (js : List Judgement) → All (λ k. severity_of k.verdict ≤ severity_of (governing j js).verdict) js
governing_worst j [] = tt
governing_worst j (k ∷ ks) = (omega (arith, (worse_most j k).1, governing_first (worse_of j k) ks), governing_worst (worse_of j k) ks)

-- ---- and those before it are less severe

-- judgements of load cases one after the other, from n on
abbrev pub Numbered : ℕ → List Judgement → Type 0
Numbered n [] = Unit {0}
Numbered n (j ∷ js) = (j.case ≡ n) × Numbered (suc n) js

-- a judgement of a load case before that of g has a less severe verdict
abbrev pub LessBefore : Judgement → Judgement → Type 0
LessBefore g k = k.case < g.case → severity_of k.verdict < severity_of g.verdict

pub governing_before : (j : Judgement) (n : ℕ) (js : List Judgement) → j.case < n → Numbered n js → All (LessBefore (governing j js)) (j ∷ js)
governing_before j n [] lt e = (λ h. absurd (omega arith), tt)
governing_before j n (k ∷ ks) lt (e, es) =
    go (governing_before j (suc n) ks (omega arith) es) (governing_before k (suc n) ks (omega arith) es) (is_worse j k) refl
  where
    go : All (LessBefore (governing j ks)) (j ∷ ks) → All (LessBefore (governing k ks)) (k ∷ ks) → (t : Bool) → is_worse j k ≡ t →
        All (LessBefore (governing (worse_of j k) ks)) (j ∷ k ∷ ks)
    go with-j with-k true t =
        let worse = ltb-true (severity_of j.verdict) (severity_of k.verdict) t in
        let same : worse_of j k ≡ k = ap (λ (b : Bool). pick b k j) t in
        subst (λ (g : Judgement). All (LessBefore (governing g ks)) (j ∷ k ∷ ks)) (sym same)
        (λ h. omega (arith, governing_first k ks), with-k)
    go with-j with-k false t =
        let no-worse = ltb-false (severity_of j.verdict) (severity_of k.verdict) t in
        let same : worse_of j k ≡ j = ap (λ (b : Bool). pick b k j) t in
        subst (λ (g : Judgement). All (LessBefore (governing g ks)) (j ∷ k ∷ ks)) (sym same)
        (with-j.0, (λ h. omega (arith, with-j.0 (omega arith)), with-j.1))

-- fails governs wherever there is one, and holds only where there is nothing else
pub severity_fails : (v : Verdict) → severity_of Fails ≤ severity_of v → v ≡ Fails
severity_fails Fails le = refl
severity_fails Open le = absurd (omega arith)
severity_fails Holds le = absurd (omega arith)

pub severity_holds : (v : Verdict) → severity_of v ≤ severity_of Holds → v ≡ Holds
severity_holds Holds le = refl
severity_holds Open le = absurd (omega arith)
severity_holds Fails le = absurd (omega arith)

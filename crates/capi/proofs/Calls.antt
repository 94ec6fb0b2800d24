-- From the load cases that a call makes of its numbers to those that its contract names. Assumes nothing.
use mathlib.Core.Path.{◌≡◌, refl, sym, ap, ◌∙◌}
use mathlib.Core.Bool.{Bool, true, false}
use mathlib.Core.List.{List, [], ◌∷◌}
use Prim.Native.Nat.{ℕ, zero, suc, ◌+◌, ◌/◌, ◌%◌, ◌≤◌}
use native.Mathlib.Nat.{lt_of_not-le}
use native.Mathlib.Decide.{dec_le}
use native.Mathlib.Omega.{arith}
use lib.ListN.{length, length-append}
use lib.Dec.{ltb, eqb}
use borrow.Author.Tests.{ltb-true, eqb-true, le-leb}
use mathlib.Core.Logic.{inl, inr}
use Rattle.record.specs.declared.Wall.{Wall}
use Rattle.record.specs.declared.Group.{Group}
use Rattle.std.specs.Prelude.{Option, Err}
use Rattle.answer.specs.declared.Refusal.{Refusal}
use Rattle.answer.proofs.Checks.{first_broken}
use Rattle.cases.specs.Numbers.{group_from, first_from, groups_from}
use Rattle.cases.specs.Answering.{count_of}
use Rattle.cases.specs.Cases.{LoadCases}
use Rattle.writer.specs.Writing.{Written, count_allowed, writer_checks, numbered, NumberOfWriting}
use Rattle.writer.proofs.Laws.{laid, writing_small, count_none, count_many}
use Rattle.writer.specs.Writer.{writing}

-- ---- load cases from a list of numbers

-- where two are written alike
pub numbered_alike : (c d : LoadCases) (out out' : List ℕ) (n : ℕ) → writing d out ≡ writing c out → ◌≡◌ {A = ℕ × List ℕ} (n, out') (numbered (writing d out))
    → NumberOfWriting c out out' n × ◌≡◌ {A = ℕ × List ℕ} (n, out') (numbered (writing c out))
numbered_alike c d out out' n alike e =
    let f : ◌≡◌ {A = ℕ × List ℕ} (n, out') (numbered (writing c out)) = e ∙ ap numbered alike in
    let w = (writing c out).0 in
    (record { answer = w; is_right = laid c out out' w (λ i. (w, (f i).1)); is_number = λ i. (f i).0 }, f)

-- two with no count that is allowed are refused alike
form_refused : (c : LoadCases) (out : List ℕ) → 512 ≤ length out → count_allowed c ≡ false → ◌≡◌ {A = Written × List ℕ} (Err Refusal.Form, out) (writing c out)
unfolding writing
form_refused c out room not = sym (first_broken (λ r. (Err r, out)) _ (writer_checks (length out) c) Refusal.Form (inr (le-leb 512 (length out) room, inl (not, refl))))

uncounted : (c d : LoadCases) (out : List ℕ) → count_allowed c ≡ false → count_allowed d ≡ false → writing c out ≡ writing d out
uncounted c d out n m = elim (dec_le 512 (length out)) [
  | yes room ↦ sym (form_refused c out room n) ∙ form_refused d out room m
  | no small ↦ sym (writing_small c out (lt_of_not-le small)) ∙ writing_small d out (lt_of_not-le small)
]

first_length : (ns : List ℕ) (k : ℕ) → length (first_from ns k) ≡ k
first_length ns zero = refl
first_length ns (suc k) = length-append (first_from ns k) (group_from ns k ∷ []) ∙ plus_one (length (first_from ns k)) k (first_length ns k)
  where
    plus_one : (n k : ℕ) → n ≡ k → n + 1 ≡ suc k
    plus_one n k e = omega (arith, e)

-- what the code has read of a list is written as the list's load cases: more than eight are refused as none are
pub listed_alike : (wall : Wall) (i : Option ℕ) (ns : List ℕ) (gs : List Group) → gs ≡ first_from ns (count_of (length ns)) → (out : List ℕ)
    → writing (record { wall = wall; groups = gs; inner = i }) out ≡ writing (record { wall = wall; groups = groups_from ns; inner = i }) out
listed_alike wall i ns gs e out = ap (λ (l : List Group). writing (of l) out) e ∙ go (ltb 40 n) refl (eqb (n % 5) 0) refl
  where
    n : ℕ
    n = length ns

    of : List Group → LoadCases
    of l = record { wall = wall; groups = l; inner = i }

    go : (a : Bool) → ltb 40 n ≡ a → (b : Bool) → eqb (n % 5) 0 ≡ b → writing (of (first_from ns (count_of n))) out ≡ writing (of (groups_from ns)) out
    go true f true g =
        let many = ltb-true 40 n f in
        let whole = eqb-true (n % 5) 0 g in
        rw (f, g)
        (uncounted (of []) (of (first_from ns (n / 5))) out (count_none (of []) refl)
        (count_many (of (first_from ns (n / 5))) (omega (arith, first_length ns (n / 5), many, whole))))
    go true f false g = rw (f, g) refl
    go false f true g = rw (f, g) refl
    go false f false g = rw (f, g) refl

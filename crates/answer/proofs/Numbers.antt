-- The number of an answer tells the answer: the load case, the verdict, L and U, or the refusal. Assumes nothing.
use mathlib.Core.Path.{◌≡◌, refl, sym, ap, ◌∙◌}
use Rattle.std.specs.Prelude.{Result, Ok, Err}
use Prim.Native.Nat.{ℕ, ◌+◌, ◌-◌, ◌*◌, ◌≤◌, ◌<◌}
use lib.Dec.{lit≤}
use lib.ListN.{get_or}
use mathlib.Core.List.{[], ◌∷◌}
use native.Mathlib.Omega.{arith}
use Rattle.answer.specs.declared.Verdict.{Verdict}
use Rattle.answer.specs.declared.Verdict.TheVariants.{Holds, Fails, Open}
use Rattle.answer.specs.declared.Judgement.{Judgement}
use Rattle.answer.specs.declared.Refusal.{Refusal}
use Rattle.answer.specs.declared.Refusal.TheVariants.{SheetBytes, SheetLines, ListingRoom, LineBytes, Form, Range, Edges, WallRatio, LengthRatio, Imperfection, Shortfall, LineRoom, Wind, PlateList, Force, Pressure}
use Rattle.answer.specs.Answers.{Answer, verdict_number, refusal_number, judgement_number, answer_number, number_by, in_table}
use Rattle.answer.specs.Answering.{Bounded, BoundedBy}

verdict_some : (v : Verdict) → (1 ≤ verdict_number v) × (verdict_number v ≤ 3)
verdict_some Holds = (omega arith, omega arith)
verdict_some Fails = (omega arith, omega arith)
verdict_some Open = (omega arith, omega arith)

abbrev verdict_at : ℕ → Verdict
verdict_at n = get_or (Holds ∷ Fails ∷ Open ∷ []) (n - 1) Open

verdict_back : (v : Verdict) → verdict_at (verdict_number v) ≡ v
verdict_back Holds = refl
verdict_back Fails = refl
verdict_back Open = refl

verdict_same : (v w : Verdict) → verdict_number v ≡ verdict_number w → v ≡ w
verdict_same v w e = sym (verdict_back v) ∙ ap verdict_at e ∙ verdict_back w

-- a judgement is above every refusal
above : (j : Judgement) → 10000000000 ≤ judgement_number j
above j = omega (arith, verdict_some j.verdict)

-- four numbers in one, each below its place
digits : (c v l h c' v' l' h' : ℕ) → v ≤ 3 → v' ≤ 3 → l ≤ 20000 → l' ≤ 20000 → h ≤ 20000 → h' ≤ 20000 →
    100000000000 * c + 10000000000 * v + 100000 * l + h ≡ 100000000000 * c' + 10000000000 * v' + 100000 * l' + h' → (c ≡ c') × (v ≡ v') × (l ≡ l') × (h ≡ h')
digits c v l h c' v' l' h' a a' b b' d d' e = (omega arith, omega arith, omega arith, omega arith)

judgement_tells : (i j : Judgement) → Bounded (Ok i) → Bounded (Ok j) → judgement_number i ≡ judgement_number j → i ≡ j
judgement_tells i j (l, h, s, m) (l', h', s', m') e =
    let (c, v, low, high) =
    digits (i.case - 1) (verdict_number i.verdict) i.low i.high (j.case - 1) (verdict_number j.verdict) j.low j.high (verdict_some i.verdict).1 (verdict_some j.verdict).1
    l l' h h' e in
    let same : i.case ≡ j.case = omega arith in
    let verdict = verdict_same i.verdict j.verdict v in
    λ n. record { verdict = verdict n; low = low n; high = high n; case = same n }

-- a refusal is below the number of every judgement
abbrev pub SmallRefusal : Result Judgement ℕ → Type 0
SmallRefusal (Err n) = n < 10000000000
SmallRefusal (Ok j) = Unit {0}

-- equal numbers are of equal answers, whatever numbers stand for refusals
pub number_by_tells : (a b : Result Judgement ℕ) → BoundedBy a → BoundedBy b → SmallRefusal a → SmallRefusal b → number_by a ≡ number_by b → a ≡ b
number_by_tells (Err m) (Err n) _ _ _ _ e = ap Err e
number_by_tells (Err m) (Ok j) _ _ small _ e = absurd (omega (arith, above j))
number_by_tells (Ok i) (Err n) _ _ _ small e = absurd (omega (arith, above i))
number_by_tells (Ok i) (Ok j) p q _ _ e = ap Ok (judgement_tells i j p q e)

-- the table read back
abbrev refusal_at : ℕ → Refusal
refusal_at n = get_or (SheetBytes ∷ SheetLines ∷ ListingRoom ∷ LineBytes ∷ Form ∷ Range ∷ Edges ∷ WallRatio ∷ LengthRatio ∷ Imperfection ∷ Shortfall ∷ LineRoom ∷ Wind ∷ PlateList ∷ Force ∷ Pressure ∷ []) (n - 1) Pressure

-- each refusal stands in it at its number, and the numbers are those of the table
tabled : (r : Refusal) → (refusal_at (refusal_number r) ≡ r) × ((1 ≤ refusal_number r) × (refusal_number r ≤ 16))
tabled SheetBytes = (refl, (lit≤ tt, lit≤ tt))
tabled SheetLines = (refl, (lit≤ tt, lit≤ tt))
tabled ListingRoom = (refl, (lit≤ tt, lit≤ tt))
tabled LineBytes = (refl, (lit≤ tt, lit≤ tt))
tabled Form = (refl, (lit≤ tt, lit≤ tt))
tabled Range = (refl, (lit≤ tt, lit≤ tt))
tabled Edges = (refl, (lit≤ tt, lit≤ tt))
tabled WallRatio = (refl, (lit≤ tt, lit≤ tt))
tabled LengthRatio = (refl, (lit≤ tt, lit≤ tt))
tabled Imperfection = (refl, (lit≤ tt, lit≤ tt))
tabled Shortfall = (refl, (lit≤ tt, lit≤ tt))
tabled LineRoom = (refl, (lit≤ tt, lit≤ tt))
tabled Wind = (refl, (lit≤ tt, lit≤ tt))
tabled PlateList = (refl, (lit≤ tt, lit≤ tt))
tabled Force = (refl, (lit≤ tt, lit≤ tt))
tabled Pressure = (refl, (lit≤ tt, lit≤ tt))

-- two refusals have two numbers
pub refusal_same : (r s : Refusal) → refusal_number r ≡ refusal_number s → r ≡ s
refusal_same r s e = sym (tabled r).0 ∙ ap refusal_at e ∙ (tabled s).0

pub refusal_range : (r : Refusal) → (1 ≤ refusal_number r) × (refusal_number r ≤ 16)
refusal_range r = (tabled r).1

-- an answer by the numbers of refusals, and back
abbrev from_table : Result Judgement ℕ → Answer
from_table (Ok j) = Ok j
from_table (Err n) = Err (refusal_at n)

table_back : (a : Answer) → from_table (in_table a) ≡ a
table_back (Ok j) = refl
table_back (Err r) = ap Err (tabled r).0

table_bounded : (a : Answer) → Bounded a → BoundedBy (in_table a) × SmallRefusal (in_table a)
table_bounded (Ok j) p = (p, tt)
table_bounded (Err r) p = (tt, omega (arith, refusal_range r))

pub table_number : (a : Answer) → answer_number a ≡ number_by (in_table a)
table_number (Ok j) = refl
table_number (Err r) = refl

-- equal numbers are of equal answers
pub number_tells : (a b : Answer) → Bounded a → Bounded b → answer_number a ≡ answer_number b → a ≡ b
number_tells a b p q e =
    let (pa, small_a) = table_bounded a p in
    let (qb, small_b) = table_bounded b q in
    let same = number_by_tells (in_table a) (in_table b) pa qb small_a small_b (sym (table_number a) ∙ e ∙ table_number b) in
    sym (table_back a) ∙ ap from_table same ∙ table_back b

-- The program's answer to load cases is right; what the verdict of a right answer says; and each load case is judged as on a line of its own. Assumes
-- nothing.
use mathlib.Core.Path.{◌≡◌, refl, sym, ap, ◌∙◌, subst}
use mathlib.Core.Bool.{Bool, true, false, ◌&&◌}
use mathlib.Core.Logic.{◌⊎◌, ◌↔◌, inl, inr}
use mathlib.Core.List.{List, [], ◌∷◌}
use Prim.Native.Nat.{ℕ, zero, suc, ◌+◌, ◌-◌, ◌≤◌, ◌<◌}
use native.Mathlib.Omega.{arith}
use lib.ListN.{length}
use lib.Dec.{lit<}
use Rattle.pressure.specs.declared.Order.{Order}
use Rattle.algebra.proofs.Tests.{and_true, both_true}
use Rattle.std.specs.Prelude.{Option, Ok, Err}
use Rattle.answer.specs.declared.Refusal.{Refusal}
use Rattle.answer.specs.declared.Verdict.{Verdict}
use Rattle.answer.specs.declared.Verdict.TheVariants.{Holds, Fails}
use Rattle.answer.specs.declared.Judgement.{Judgement}
use Rattle.answer.specs.Answers.{verdict_of, refusal_number, Answer}
use Rattle.answer.specs.Governing.{severity_of, governing}
use Rattle.answer.specs.Checks.{Check, check, FirstBroken, AllPassed}
use Rattle.answer.specs.Right.{AsCase, refused, judged}
use Rattle.answer.specs.Answering.{first_or, refusal_by, of_case, Bounded}
use Rattle.answer.proofs.Checks.{Among, Every, refusals, first_or_lem, first_broken, all_passed, refusal_broken}
use Rattle.answer.proofs.Right as answers
use Rattle.answer.proofs.Governing.{All, Numbered, LessBefore, governing_either, governing_first, governing_worst, governing_before, severity_fails, severity_holds}
use Rattle.record.specs.declared.Wall.{Wall}
use Rattle.record.specs.declared.Group.{Group}
use Rattle.record.specs.declared.Record.{Record}
use Rattle.record.specs.Limits.{dimensions, material, stresses, edges_known, shortfall_allowed, wall_ratio, length_ratio, tolerated, wind_allowed, pressure_allowed, checks}
use Rattle.record.specs.Right.{Bounds, Right, MeansFor}
use Rattle.record.specs.Answering.{judgement_of_record, record_answer}
use Rattle.record.proofs.Right.{record_refusals, record_range, bounds_right, verdict_means, holds_at_most}
use Rattle.cases.specs.Cases.{LoadCases, alone, every, case_checks, EachJudged, Governs, RightCases, At, MeansCases}
use Rattle.cases.specs.Answering.{judgements, governs, cases_answer}
use Rattle.cases.proofs.Checks.{stands_some, stands_refused}

-- a test that every group passes is passed by each
pub every_at : (test : Group → Bool) (gs : List Group) (n : ℕ) (g : Group) → At gs n g → every test gs ≡ true → test g ≡ true
every_at test [] n g e all = elim e [ ]
every_at test (h ∷ hs) zero g e all = ap test e ∙ (and_true (test h) (every test hs) all).0
every_at test (h ∷ hs) (suc n) g at all = every_at test hs n g at (and_true (test h) (every test hs) all).1

module _ (c : LoadCases) where
  -- where the line breaks no check, no load case breaks one on a line of its own
  pub alone_passed : AllPassed (case_checks c) → (n : ℕ) (g : Group) → At c.groups n g → AllPassed (checks (alone c g))
  alone_passed (six, (seven, (eleven, (eight, (nine, (ten, (thirteen, rest))))))) n g at =
      let a = and_true (dimensions c.wall) (material c.wall && every stresses c.groups) six in
      let b = and_true (material c.wall) (every stresses c.groups) a.1 in (
        both_true (dimensions c.wall) (material c.wall && stresses g) a.0
            (both_true (material c.wall) (stresses g) b.0 (every_at stresses c.groups n g at b.1)),
        (seven, (eleven, (eight, (nine, (ten, (every_at (λ h. wind_allowed h.ring) c.groups n g at thirteen, rest)))))),
      )

-- no check has the number 0
pub cases_above : (c : LoadCases) → Every (λ r. 0 < refusal_number r) (refusals (case_checks c))
cases_above c = (lit< tt, (lit< tt, (lit< tt, (lit< tt, (lit< tt, (lit< tt, (lit< tt, (lit< tt, tt))))))))

-- ---- by either reading of the pressure's test

module _ (o : Order) where
  module _ (c : LoadCases) where
    -- the judgements of the program are right
    each_judged : AllPassed (case_checks c) → (n : ℕ) (gs : List Group) → ((m : ℕ) (g : Group) → At gs m g → AllPassed (checks (alone c g))) → EachJudged o c n gs (judgements o c n gs)
    unfolding judgements
    each_judged all n [] passed = tt
    each_judged all n (g ∷ gs) passed = (((bounds_right o (alone c g) (passed 0 g refl), refl), refl), each_judged all (suc n) gs (λ m h at. passed (suc m) h at))

  -- ---- of judgements that are right, each is that of a load case, and each load case has one

  -- k is not worse than j
  abbrev pub NoWorse : Judgement → Judgement → Type 0
  NoWorse j k = severity_of k.verdict ≤ severity_of j.verdict

  -- k is a right judgement of the load case at place m of gs, where the first has the number n
  pub record JudgedAt (c : LoadCases) (n : ℕ) (gs : List Group) (k : Judgement) : Type 0 where
    pub m : ℕ
    pub g : Group
    pub at : At gs m g
    pub bounds : Bounds o (alone c g) k
    pub case_is : k.case ≡ n + m
    pub verdict_is : k.verdict ≡ verdict_of k.low k.high

  all_map : {P Q : Judgement → Type 0} → ((k : Judgement) → P k → Q k) → (js : List Judgement) → All P js → All Q js
  all_map f [] all = tt
  all_map f (j ∷ js) (p, all) = (f j p, all_map f js all)

  all_both : (P Q : Judgement → Type 0) (js : List Judgement) → All P js → All Q js → All (λ k. P k × Q k) js
  all_both P Q [] ps qs = tt
  all_both P Q (j ∷ js) (p, ps) (q, qs) = ((p, q), all_both P Q js ps qs)

  pub each_at : (c : LoadCases) (n : ℕ) (gs : List Group) (js : List Judgement) → EachJudged o c n gs js → All (JudgedAt c n gs) js
  each_at c n [] (j ∷ js) each = elim each [ ]
  each_at c n [] [] each = tt
  each_at c n (g ∷ gs) [] each = tt
  each_at c n (g ∷ gs) (j ∷ js) (((b, k), v), each) = (
    record { m = 0; g = g; at = refl; bounds = b; case_is = omega (arith, k); verdict_is = v },
    all_map (λ i p. record { m = suc p.m; g = p.g; at = p.at; bounds = p.bounds; case_is = omega (arith, p.case_is); verdict_is = p.verdict_is }) js (each_at c (suc n) gs js each),
  )

  -- what is known of all judgements is known of that of a load case
  pub at_each : (c : LoadCases) (n : ℕ) (gs : List Group) (js : List Judgement) (P : Judgement → Type 0) → EachJudged o c n gs js → All P js → (m : ℕ) (g : Group) → At gs m g →
      (k : Judgement) × (P k × (Bounds o (alone c g) k × (k.verdict ≡ verdict_of k.low k.high) × (k.case ≡ n + m)))
  at_each c n [] js P each all m g at = elim at [ ]
  at_each c n (h ∷ hs) [] P each all m g at = absurd each
  at_each c n (h ∷ hs) (j ∷ js) P (((b, k), v), each) (p, all) zero g e = (j, (p, (subst (λ (x : Group). Bounds o (alone c x) j) (sym e) b, v, omega (arith, k))))
  at_each c n (h ∷ hs) (j ∷ js) P (_, each) (p, all) (suc m) g at =
      let (k, (q, (b, v, is))) = at_each c (suc n) hs js P each all m g at in (k, (q, (b, v, omega (arith, is))))

  -- what governs is the judgement of a load case
  pub governs_at : (c : LoadCases) (gs : List Group) (j : Judgement) (js : List Judgement) → EachJudged o c 1 gs (j ∷ js) → JudgedAt c 1 gs (governing j js)
  governs_at c gs j js each = let all = each_at c 1 gs (j ∷ js) each in governing_either (JudgedAt c 1 gs) j js all.0 all.1

  module _ (c : LoadCases) where
    -- a judgement of a load case is right for it on a line of its own
    pub alone_right : AllPassed (case_checks c) → (m : ℕ) (g : Group) → At c.groups m g → (k : Judgement) → Bounds o (alone c g) k → k.verdict ≡ verdict_of k.low k.high →
        Right o (alone c g) (Ok (of_case 1 k))
    alone_right all m g at k b v = judged (of_case 1 k) (alone_passed c all m g at) (b, refl) v

    pub cases_means : (j : Judgement) → RightCases o c (Ok j) → MeansCases o c j
    cases_means j (judged _ all r v) =
        let it = governs_at c c.groups r.first r.others r.each in
        let same = sym r.is in
        record {
          governs = it.g;
          is_case = subst (λ (n : ℕ). At c.groups n it.g) (place it.m it.case_is) it.at;
          means =
              subst (λ (k : Judgement). MeansFor o (alone c it.g) k.verdict) same
              (verdict_means o (alone c it.g) (of_case 1 (governing r.first r.others)) (alone_right all it.m it.g it.at (governing r.first r.others) it.bounds it.verdict_is));
          all_hold = λ holds n g at.
              let e : (governing r.first r.others).verdict ≡ Holds = ap (λ (k : Judgement). k.verdict) same ∙ holds in
              let (k, (le, (b, w, _))) =
              at_each c 1 c.groups (r.first ∷ r.others) (NoWorse (governing r.first r.others)) r.each
              (governing_first r.first r.others, governing_worst r.first r.others) n g at in
              holds_at_most o (alone c g) (of_case 1 k) (alone_right all n g at k b w)
              (severity_holds k.verdict (subst (λ (u : Verdict). severity_of k.verdict ≤ severity_of u) e le));
        }
      where
        place : (m : ℕ) → (governing r.first r.others).case ≡ 1 + m → m ≡ j.case - 1
        place m e = let f : j.case ≡ 1 + m = ap (λ (k : Judgement). k.case) r.is ∙ e in omega (arith, f)

    all_verdicts : (n : ℕ) (gs : List Group) → All (λ k. k.verdict ≡ verdict_of k.low k.high) (judgements o c n gs)
    unfolding judgements
    all_verdicts n [] = tt
    all_verdicts n (g ∷ gs) = (refl, all_verdicts (suc n) gs)

    governs_verdict : (gs : List Group) → (governs (judgements o c 1 gs)).verdict ≡ verdict_of (governs (judgements o c 1 gs)).low (governs (judgements o c 1 gs)).high
    unfolding judgements
    governs_verdict [] = refl
    governs_verdict (g ∷ gs) =
        governing_either (λ k. k.verdict ≡ verdict_of k.low k.high) (of_case 1 (judgement_of_record o (alone c g))) (judgements o c 2 gs) refl (all_verdicts 2 gs)

    -- the program's answer is right, where there is a load case
    pub cases_right : 0 < length c.groups → RightCases o c (cases_answer o c)
    unfolding cases_answer judgements
    cases_right some = answers.answer_by_right (case_checks c) (Governs o c) (governs (judgements o c 1 c.groups)) (governs_verdict c.groups) (λ all. go all c.groups refl some)
      where
        go : AllPassed (case_checks c) → (gs : List Group) → c.groups ≡ gs → 0 < length gs → Governs o c (governs (judgements o c 1 c.groups))
        go all [] e none = absurd (omega arith)
        go all (g ∷ gs) e _ =
            record {
              first = of_case 1 (judgement_of_record o (alone c g));
              others = judgements o c 2 gs;
              each = subst (λ (x : List Group). EachJudged o c 1 c.groups (judgements o c 1 x)) e (each_judged c all 1 c.groups (alone_passed c all));
              is = ap (λ (x : List Group). governs (judgements o c 1 x)) e;
            }

  -- ---- the line is as bad as its worst load case, and its case is the first that is so bad

  each_numbered : (c : LoadCases) (n : ℕ) (gs : List Group) (js : List Judgement) → EachJudged o c n gs js → Numbered n js
  each_numbered c n [] (j ∷ js) each = elim each [ ]
  each_numbered c n (g ∷ gs) [] each = elim each [ ]
  each_numbered c n [] [] each = tt
  each_numbered c n (g ∷ gs) (j ∷ js) (((_, is), _), each) = (is, each_numbered c (suc n) gs js each)

  governing_numbered : (j : Judgement) (js : List Judgement) → Numbered 1 (j ∷ js) → All (LessBefore (governing j js)) (j ∷ js)
  governing_numbered j js (is, rest) = governing_before j 2 js (omega (arith, is)) rest

  governs_all : (js : List Judgement) → Numbered 1 js → All (λ k. NoWorse (governs js) k × LessBefore (governs js) k) js
  governs_all [] numbered = tt
  governs_all (j ∷ js) numbered = all_both (NoWorse (governing j js)) (LessBefore (governing j js)) (j ∷ js) (governing_first j js, governing_worst j js) (governing_numbered j js numbered)

  module _ (c : LoadCases) (j : Judgement) (r : Governs o c j) where
    -- no judgement of a load case is worse
    pub cases_worst : All (NoWorse j) (r.first ∷ r.others)
    cases_worst = subst (λ (k : Judgement). All (NoWorse k) (r.first ∷ r.others)) (sym r.is) (governing_first r.first r.others, governing_worst r.first r.others)

    -- so the line fails wherever one fails
    pub cases_fails : All (λ k. k.verdict ≡ Fails → j.verdict ≡ Fails) (r.first ∷ r.others)
    cases_fails = all_map (λ k le fails. severity_fails j.verdict (subst (λ (v : Verdict). severity_of v ≤ severity_of j.verdict) fails le)) (r.first ∷ r.others) cases_worst

    -- and each before the line's case is less severe
    pub cases_first : All (LessBefore j) (r.first ∷ r.others)
    cases_first = subst (λ (k : Judgement). All (LessBefore k) (r.first ∷ r.others)) (sym r.is) (governing_numbered r.first r.others (each_numbered c 1 c.groups (r.first ∷ r.others) r.each))

  -- the same at the place of a load case
  pub cases_each : (c : LoadCases) (j : Judgement) → RightCases o c (Ok j) → (m : ℕ) (g : Group) → At c.groups m g →
      (k : Judgement) × (Right o (alone c g) (Ok (of_case 1 k)) × (severity_of k.verdict ≤ severity_of j.verdict) × (m < j.case - 1 → severity_of k.verdict < severity_of j.verdict))
  cases_each c j (judged _ all r v) m g at =
      let (k, ((le, less), (b, w, is))) =
      at_each c 1 c.groups (r.first ∷ r.others) (λ k. NoWorse j k × LessBefore j k) r.each
      (all_both (NoWorse j) (LessBefore j) (r.first ∷ r.others) (cases_worst c j r) (cases_first c j r)) m g at in
      (k, (alone_right c all m g at k b w, le, λ h. less (omega (arith, is))))

  -- ---- by the program's answers: what a load case has on a line of its own

  module _ (c : LoadCases) where
    judgements_numbered : (n : ℕ) (gs : List Group) → Numbered n (judgements o c n gs)
    unfolding judgements
    judgements_numbered n [] = tt
    judgements_numbered n (g ∷ gs) = (refl, judgements_numbered (suc n) gs)

    -- what is known of all judgements is known of each
    own_at : (P : Judgement → Type 0) (n : ℕ) (gs : List Group) → All P (judgements o c n gs) → (m : ℕ) (g : Group) → At gs m g → P (of_case (n + m) (judgement_of_record o (alone c g)))
    unfolding judgements
    own_at P n [] _ m g e = elim e [ ]
    own_at P n (h ∷ hs) (p, all) zero g e = rw e (subst (λ (i : ℕ). P (of_case i (judgement_of_record o (alone c h)))) (omega arith) p)
    own_at P n (h ∷ hs) (p, all) (suc m) g at = subst (λ (i : ℕ). P (of_case i (judgement_of_record o (alone c g)))) (omega arith) (own_at P (suc n) hs all m g at)

    -- and each is that of the load case at its place
    abbrev Own : ℕ → List Group → Judgement → Type 0
    Own n gs k = (n ≤ k.case) × ((g : Group) → At gs (k.case - n) g → judgement_of_record o (alone c g) ≡ of_case 1 k)

    own_all : (n : ℕ) (gs : List Group) → All (Own n gs) (judgements o c n gs)
    unfolding judgements
    own_all n [] = tt
    own_all n (h ∷ hs) = ((omega arith, head), all_map tail (judgements o c (suc n) hs) (own_all (suc n) hs))
      where
        head : (g : Group) → At (h ∷ hs) (n - n) g → judgement_of_record o (alone c g) ≡ judgement_of_record o (alone c h)
        head g at = let none : n - n ≡ 0 = omega arith in let e : g ≡ h = subst (λ (i : ℕ). At (h ∷ hs) i g) none at in ap (λ (x : Group). judgement_of_record o (alone c x)) e

        tail : (k : Judgement) → Own (suc n) hs k → Own n (h ∷ hs) k
        tail k (le, own) = let next : k.case - n ≡ suc (k.case - suc n) = omega arith in (omega arith, λ g at. own g (subst (λ (i : ℕ). At (h ∷ hs) i g) next at))

    governs_own : (gs : List Group) (g : Group) → At gs ((governs (judgements o c 1 gs)).case - 1) g → judgement_of_record o (alone c g) ≡ of_case 1 (governs (judgements o c 1 gs))
    unfolding judgements
    governs_own [] g at = absurd at
    governs_own (h ∷ hs) g at =
        let all = own_all 1 (h ∷ hs) in (governing_either (Own 1 (h ∷ hs)) (of_case 1 (judgement_of_record o (alone c h))) (judgements o c 2 hs) all.0 all.1).1 g at

  module _ (c : LoadCases) (j : Judgement) (is : cases_answer o c ≡ Ok j) where
    -- no check is broken, and j governs
    pub judged_by : AllPassed (case_checks c) × (governs (judgements o c 1 c.groups) ≡ j)
    unfolding cases_answer judgements
    judged_by = go (first_or_lem Err (Ok (governs (judgements o c 1 c.groups))) (case_checks c))
      where
        go : ((n : Refusal) × (FirstBroken (case_checks c) n × (cases_answer o c ≡ Err n))) ⊎ (AllPassed (case_checks c) × (cases_answer o c ≡ Ok (governs (judgements o c 1 c.groups)))) →
            AllPassed (case_checks c) × (governs (judgements o c 1 c.groups) ≡ j)
        go (inl (n, (f, e))) = cc
        go (inr (all, e)) = (all, cc)

    -- every load case is judged alone
    pub alone_judged : (m : ℕ) (g : Group) → At c.groups m g → record_answer o (alone c g) ≡ Ok (judgement_of_record o (alone c g))
    unfolding record_answer
    alone_judged m g at = all_passed Err (Ok (judgement_of_record o (alone c g))) (checks (alone c g)) (alone_passed c judged_by.0 m g at)

    -- none is worse than the line, and each before the line's case is less severe
    pub cases_alone : (m : ℕ) (g : Group) → At c.groups m g →
        (severity_of (judgement_of_record o (alone c g)).verdict ≤ severity_of j.verdict) × (m < j.case - 1 → severity_of (judgement_of_record o (alone c g)).verdict < severity_of j.verdict)
    cases_alone m g at =
        let all = governs_all (judgements o c 1 c.groups) (judgements_numbered c 1 c.groups) in
        let (le, less) =
        own_at c (λ k. NoWorse j k × LessBefore j k) 1 c.groups (rw judged_by.1 at all) m g at in
        (le, λ h. less (omega arith))

    -- a line fails wherever a load case fails alone
    pub alone_fails : (m : ℕ) (g : Group) → At c.groups m g → (k : Judgement) → record_answer o (alone c g) ≡ Ok k → k.verdict ≡ Fails → j.verdict ≡ Fails
    alone_fails m g at k e fails =
        let same : judgement_of_record o (alone c g) ≡ k = cc (alone_judged m g at) in
        severity_fails j.verdict (subst (λ (v : Verdict). severity_of v ≤ severity_of j.verdict) (ap (λ (i : Judgement). i.verdict) same ∙ fails) (cases_alone m g at).0)

    -- and the one that governs has the line's verdict, L and U alone
    pub governing_alone : (g : Group) → At c.groups (j.case - 1) g → record_answer o (alone c g) ≡ Ok (of_case 1 j)
    governing_alone g at =
        alone_judged (j.case - 1) g at
        ∙ ap Ok (subst (λ (i : Judgement). At c.groups (i.case - 1) g → judgement_of_record o (alone c g) ≡ of_case 1 i) judged_by.1 (governs_own c c.groups g) at)

  -- a load case that is refused alone refuses the line
  pub alone_refused : (c : LoadCases) (m : ℕ) (g : Group) → At c.groups m g → (n : Refusal) → record_answer o (alone c g) ≡ Err n → (k : Refusal) × (cases_answer o c ≡ Err k)
  alone_refused c m g at n e = go (cases_answer o c) refl
    where
      go : (a : Answer) → cases_answer o c ≡ a → (k : Refusal) × (cases_answer o c ≡ Err k)
      go (Err k) is = (k, is)
      go (Ok j) is = let f = alone_judged c j is m g at in cc

  -- and a line that is refused is refused by the number of one of its load cases
  pub refused_alone : (c : LoadCases) → 0 < length c.groups → (n : Refusal) → cases_answer o c ≡ Err n → (m : ℕ) × ((g : Group) × (At c.groups m g × (record_answer o (alone c g) ≡ Err n)))
  unfolding cases_answer record_answer
  refused_alone c some n is =
      let (m, (g, (at, s))) = stands_some c.groups some in
      let f = broken (first_or_lem Err (Ok (governs (judgements o c 1 c.groups))) (case_checks c)) in
      let e : Err n ≡ refusal_by (checks (alone c g)) = sym (first_broken Err (Ok tt) (case_checks c) n f) ∙ sym (stands_refused c g s) in
      (m, (g, (at, first_broken Err (Ok (judgement_of_record o (alone c g))) (checks (alone c g)) n (refusal_broken (checks (alone c g)) n e))))
    where
      broken : ((k : Refusal) × (FirstBroken (case_checks c) k × (cases_answer o c ≡ Err k))) ⊎ (AllPassed (case_checks c) × (cases_answer o c ≡ Ok (governs (judgements o c 1 c.groups)))) →
          FirstBroken (case_checks c) n
      broken (inl (k, (f, e))) = let same : k ≡ n = cc in subst (FirstBroken (case_checks c)) same f
      broken (inr (all, e)) = cc

  -- ---- one load case: the answers are those of its record

  module _ (w : Wall) (g : Group) (i : Option ℕ) where
    abbrev one : LoadCases
    one = record { wall = w; groups = g ∷ []; inner = i }

    abbrev own : Record
    own = record { wall = w; group = g; inner = i }

    and_on : (b : Bool) → b && true ≡ b
    and_on true = refl
    and_on false = refl

    pub one_checks : case_checks one ≡ checks own
    one_checks = λ n.
        check Refusal.Range (dimensions w && (material w && and_on (stresses g) n)) ∷ check Refusal.Edges (edges_known w) ∷ check Refusal.Shortfall (shortfall_allowed w) ∷ check Refusal.WallRatio (wall_ratio w) ∷ check Refusal.LengthRatio (length_ratio w)
        ∷ check Refusal.Imperfection (tolerated w) ∷ check Refusal.Wind (and_on (wind_allowed g.ring) n) ∷ check Refusal.Pressure (pressure_allowed i) ∷ []

    pub one_answer : cases_answer o one ≡ record_answer o own
    unfolding cases_answer record_answer judgements
    one_answer = ap (first_or Err (Ok (judgement_of_record o own))) one_checks

    pub one_right : (a : Answer) → RightCases o one a ↔ Right o own a
    one_right a = (to a, from a)
      where
        to : (a : Answer) → RightCases o one a → Right o own a
        to _ (refused n f) = refused n (subst (λ (l : List Check). FirstBroken l n) one_checks f)
        to _ (judged j all r v) = judged j (subst AllPassed one_checks all) (claim r.first r.others r.each r.is) v
          where
            claim : (k : Judgement) (ks : List Judgement) → EachJudged o one 1 (g ∷ []) (k ∷ ks) → j ≡ governing k ks → AsCase 1 (Bounds o own) j
            claim k (_ ∷ _) each e = absurd each.1
            claim k [] each e = subst (AsCase 1 (Bounds o own)) (sym e) each.0.0

        from : (a : Answer) → Right o own a → RightCases o one a
        from _ (refused n f) = refused n (subst (λ (l : List Check). FirstBroken l n) (sym one_checks) f)
        from _ (judged j all b v) = judged j (subst AllPassed (sym one_checks) all) (record { first = j; others = []; each = ((b, v), tt); is = refl }) v

  -- ---- what a right answer can be

  at_below : (gs : List Group) (m : ℕ) (g : Group) → At gs m g → m < length gs
  at_below [] m g at = elim at [ ]
  at_below (h ∷ hs) zero g at = omega arith
  at_below (h ∷ hs) (suc m) g at = let lt = at_below hs m g at in omega (arith, lt)

  module _ (c : LoadCases) where
    -- no other refusal than that of a record
    pub cases_meets : (n : Refusal) → RightCases o c (Err n) → Among n record_refusals
    cases_meets n r = answers.refused_among (case_checks c) (Governs o c) n r

    pub cases_range : (n : Refusal) → RightCases o c (Err n) → (6 ≤ refusal_number n) × (refusal_number n ≤ 16)
    cases_range n r = record_range n (cases_meets n r)

    -- L, U and the case fit the number of an answer
    pub cases_bounded : length c.groups ≤ 8 → (a : Answer) → RightCases o c a → Bounded a
    cases_bounded few a r = answers.right_bounded (case_checks c) (Governs o c) (λ j g. limit j g) a r
      where
        limit : (j : Judgement) → Governs o c j → Bounded (Ok j)
        limit j g =
            let it = governs_at c c.groups g.first g.others g.each in
            let lt = at_below c.groups it.m it.g it.at in
            subst (λ (k : Judgement). Bounded (Ok k)) (sym g.is)
            (it.bounds.encloses.L-most, it.bounds.encloses.U-most, omega (arith, it.case_is), omega (arith, it.case_is, lt, few))

-- What the verdict by the rule says of L and U. Assumes nothing.
use mathlib.Core.Path.{◌≡◌, refl}
use mathlib.Core.Bool.{Bool, true, false}
use Prim.Native.Nat.{ℕ, ◌≤◌, ◌<◌}
use lib.Dec.{leb, ltb}
use borrow.Author.Tests.{leb-true, leb-false, ltb-true, ltb-false, le-leb, lt-leb, lt-ltb}
use Rattle.answer.specs.declared.Verdict.TheVariants.{Holds, Fails, Open}
use Rattle.answer.specs.Answers.{verdict_of}

pub verdict_holds : (L U : ℕ) → verdict_of L U ≡ Holds → U ≤ 10000
verdict_holds L U h = go (leb U 10000) refl (ltb 10000 L) refl
  where
    go : (x : Bool) → leb U 10000 ≡ x → (y : Bool) → ltb 10000 L ≡ y → U ≤ 10000
    go true e y f = leb-true U 10000 e
    go false e true f = let v : Fails ≡ Holds = rw (e, f) at h in cc
    go false e false f = let v : Open ≡ Holds = rw (e, f) at h in cc

pub verdict_fails : (L U : ℕ) → verdict_of L U ≡ Fails → 10000 < L
verdict_fails L U h = go (leb U 10000) refl (ltb 10000 L) refl
  where
    go : (x : Bool) → leb U 10000 ≡ x → (y : Bool) → ltb 10000 L ≡ y → 10000 < L
    go true e y f = let v : Holds ≡ Fails = rw e at h in cc
    go false e true f = ltb-true 10000 L f
    go false e false f = let v : Open ≡ Fails = rw (e, f) at h in cc

pub verdict_open : (L U : ℕ) → verdict_of L U ≡ Open → (10000 < U) × (L ≤ 10000)
verdict_open L U h = go (leb U 10000) refl (ltb 10000 L) refl
  where
    go : (x : Bool) → leb U 10000 ≡ x → (y : Bool) → ltb 10000 L ≡ y → (10000 < U) × (L ≤ 10000)
    go true e y f = let v : Holds ≡ Open = rw e at h in cc
    go false e true f = let v : Fails ≡ Open = rw (e, f) at h in cc
    go false e false f = (leb-false U 10000 e, ltb-false 10000 L f)

-- and which verdict L and U have
pub holds_verdict : (L U : ℕ) → U ≤ 10000 → verdict_of L U ≡ Holds
holds_verdict L U h = rw (le-leb U 10000 h) refl

pub fails_verdict : (L U : ℕ) → 10000 < L → 10000 < U → verdict_of L U ≡ Fails
fails_verdict L U l u = rw (lt-leb U 10000 u, lt-ltb 10000 L l) refl

-- Tests joined by and, or: what the joined test says of its parts, and the parts of it; and what is chosen by a test. Assumes nothing.
use mathlib.Core.Path.{◌≡◌, refl, sym, ◌∙◌}
use mathlib.Core.Bool.{Bool, true, false, ◌&&◌, ◌||◌, true≢false}
use mathlib.Core.Logic.{◌⊎◌, inl, inr}
use Rattle.algebra.specs.Choice.{pick}

pub and_false : (a b : Bool) → (a && b) ≡ false → (a ≡ false) ⊎ (b ≡ false)
and_false true b h = inr h
and_false false b h = inl refl

pub and_true : (a b : Bool) → (a && b) ≡ true → (a ≡ true) × (b ≡ true)
and_true true b h = (refl, h)
and_true false b h = (h, absurd (true≢false (sym h)))

pub both_true : (a b : Bool) → a ≡ true → b ≡ true → (a && b) ≡ true
both_true a b h g = rw (h, g)

pub missed_left : (a b : Bool) → a ≡ false → (a && b) ≡ false
missed_left a b h = rw h

pub missed_right : (a b : Bool) → b ≡ false → (a && b) ≡ false
missed_right true b h = h
missed_right false b h = refl

-- the joined test by its first part
pub and_on : {a b r : Bool} → a ≡ true → r ≡ b → r ≡ (a && b)
and_on e f = rw e f

pub and_off : {a : Bool} (b : Bool) → a ≡ false → false ≡ (a && b)
and_off b e = rw e

pub or_false : (a b : Bool) → (a || b) ≡ false → (a ≡ false) × (b ≡ false)
or_false true b h = (h, absurd (true≢false h))
or_false false b h = (refl, h)

pub or_true : (a b : Bool) → (a || b) ≡ true → (a ≡ true) ⊎ (b ≡ true)
or_true true b h = inl refl
or_true false b h = inr h

pub and_rest : (a b : Bool) → (a && b) ≡ false → a ≡ true → b ≡ false
and_rest true b h e = h
and_rest false b h e = absurd (true≢false (sym e))

-- a test cannot give both answers
pub clash : {b : Bool} → b ≡ true → b ≡ false → ⊥
clash h k = true≢false (sym h ∙ k)

-- what holds of both holds of the one that is chosen
pub pick_either : {A : Type 0} (P : A → Type 0) {x y : A} (b : Bool) → P x → P y → P (pick b x y)
pick_either P true p q = p
pick_either P false p q = q

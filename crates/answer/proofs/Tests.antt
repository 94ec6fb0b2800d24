-- Laws of tests one after the other. Assumes nothing.
use mathlib.Core.Path.{◌≡◌, sym, ◌∙◌}
use mathlib.Core.Bool.{Bool, true, false}
use Rattle.algebra.specs.Choice.{pick}

-- f is what a function returned of the test t
pub told : {f t b : Bool} → f ≡ t → f ≡ b → t ≡ b
told e h = sym e ∙ h

pub pick_on : {A : Type 0} {b : Bool} {r x : A} (y : A) → b ≡ true → r ≡ x → r ≡ pick b x y
pick_on y e f = rw e f

pub pick_off : {A : Type 0} {b : Bool} {r y : A} (x : A) → b ≡ false → r ≡ y → r ≡ pick b x y
pick_off x e f = rw e f

-- What was worked serves whoever needs no more of it. Assumes nothing.
use mathlib.Core.Path.{◌≡◌, subst}
use Prim.Native.Nat.{ℕ}
use borrow.Author.Tests.{lt-ltb}
use Rattle.cylinder.specs.declared.ByStress.{ByStress}
use Rattle.cylinder.specs.declared.Cylinder.{Cylinder}
use Rattle.pressure.specs.declared.Order.{Order}
use Rattle.term.specs.declared.Load.{Load}
use Rattle.bounds.specs.Stresses.{loaded}
use Rattle.bounds.proofs.Wanted.{fewer}
use Rattle.line_bounds.specs.declared.Worked.{Worked}
use Rattle.line_bounds.specs.Places.{WorkedFor, WorkedWanted, WorkedLoaded}

pub worked_fewer : {A R H B S K : Type 0} {o : Order} {s : Cylinder} {p : ℕ} (w : Worked) → (B → A) → (S → R) → (K → H) → WorkedFor o s p A R H w → WorkedFor o s p B S K w
worked_fewer w f g h k = record { gain = k.gain; little = k.little; spots = fewer w.spots f g h k.spots }

-- for stresses above 0
pub worked_above_zero : (o : Order) (s : Cylinder) (p : ℕ) (l : ByStress Load) (w : Worked) → WorkedWanted o s p (loaded l) w → WorkedLoaded o s p l w
worked_above_zero o s p l w = worked_fewer w (lt-ltb 0 l.axial.num) (lt-ltb 0 l.ring.num) (lt-ltb 0 l.shear.num)

-- and for the same cylinder and pressure under other names
pub worked_same : {A R H B S K : Type 0} {o : Order} (s s' : Cylinder) (p p' : ℕ) (w : Worked) → s ≡ s' → p ≡ p' → (B → A) → (S → R) → (K → H) → WorkedFor o s p A R H w → WorkedFor o s' p' B S K w
worked_same {B} {S} {K} {o} s s' p p' w e f a r h k =
    subst (λ (x : Cylinder). WorkedFor o x p' B S K w) e (subst (λ (n : ℕ). WorkedFor o s n B S K w) f (worked_fewer w a r h k))

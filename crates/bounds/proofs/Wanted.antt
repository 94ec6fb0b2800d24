-- Places that were wanted serve whoever needs no more of them. Assumes nothing.
use borrow.Author.Tests.{lt-ltb}
use Rattle.std.specs.Prelude.{Option}
use Rattle.cylinder.specs.declared.ByStress.{ByStress}
use Rattle.cylinder.specs.declared.Cylinder.{Cylinder}
use Rattle.term.specs.declared.Load.{Load}
use Rattle.bounds.specs.declared.Spot.{Spot}
use Rattle.bounds.specs.Spot.{SpotsFor, SpotsLoaded, SpotsWanted}
use Rattle.bounds.specs.Stresses.{loaded}

pub fewer : {s : Cylinder} {A R H B S K : Type 0} (r : ByStress (Option Spot)) → (B → A) → (S → R) → (K → H) → SpotsFor s A R H r → SpotsFor s B S K r
fewer r f g h o = record { axial = λ b. o.axial (f b); ring = λ b. o.ring (g b); shear = λ b. o.shear (h b) }

-- those of stresses above 0
pub above_zero : {s : Cylinder} (l : ByStress Load) (r : ByStress (Option Spot)) → SpotsWanted s (loaded l) r → SpotsLoaded s l r
above_zero l r = fewer r (lt-ltb 0 l.axial.num) (lt-ltb 0 l.ring.num) (lt-ltb 0 l.shear.num)

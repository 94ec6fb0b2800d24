-- Ten shells against an outside calculation, from SCOPE 3 to 5 in decimals of 60 digits: L and U stand around its sums.
use Prim.Native.Nat.{ℕ, ◌+◌}
use mathlib.Core.Bool.{Bool, true, ◌&&◌}
use mathlib.Core.List.{List, [], ◌∷◌}
use lib.Dec.{T, leb}
use Rattle.cylinder.specs.declared.Cylinder.{Cylinder}
use Rattle.cylinder.specs.Fraction.{◌//◌}
use Rattle.cylinder.specs.Search.{Pair, sum_bounds}

-- the shell's seven numbers; σx, σφ, τ as numerators over a common denominator; the sum in ten-thousandths, rounded down
row : ℕ → ℕ → ℕ → ℕ → ℕ → ℕ → ℕ → ℕ → ℕ → ℕ → ℕ → ℕ → Bool
unfolding sum_bounds
row r t l e f edges a x y z d sum =
    let s : Cylinder = record { radius = r; wall = t; length = l; modulus = e; yield_stress = f; edges = edges; imperfection = a } in
    let p : Pair = sum_bounds 0 s (x // d) (y // d) (z // d) in
    leb p.low sum && (leb sum (p.low + 1) && (leb sum p.high && leb p.high (sum + 2)))

all : List Bool → Bool
all [] = true
all (b ∷ bs) = b && all bs

checked : T
    (all
    (row 2392 14955 66683 109781 289 22 1000 0 9855512 248593953 3086 7752
    ∷ row 45545 19661 106128 101286 115 22 0 25682 1360 10891 1 18427
    ∷ row 1140 7675 344 207624 210 12 2000 145438 131379 23956 1 15044
    ∷ row 1727 2543 74305 130720 444 11 2000 25538520 0 2298165 498 8533
    ∷ row 11744 940 192449 169898 492 11 1708 1218 35 549 1 16609
    ∷ row 20032 6287 104358 217815 690 11 1000 66025657 10229184 50288698 6989 11699
    ∷ row 19519 2584 16902 64065 477 12 1000 49751081 3646779 36348969 19245 11656
    ∷ row 40106 5342 195841 205209 301 22 1695 3374 49 0 1 4925
    ∷ row 355 712 15781 69535 420 11 1000 35408 714 9322 1 13945
    ∷ row 15663 15160 3528 114193 255 12 2000 432823425 138806645 418134149 11057 7733
    ∷ []))
unfolding all row
checked = tt

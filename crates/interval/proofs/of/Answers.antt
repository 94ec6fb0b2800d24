-- `interval::of` meets its contract: the digits are shifted up, and none is lost. Assumes nothing.
use mathlib.Core.Path.{◌≡◌, sym, ap, ◌∙◌}
use Prim.Native.Nat.{ℕ, zero, suc, ◌+◌, ◌-◌, ◌*◌, ◌%◌, ◌^◌, ◌<◌}
use native.Mathlib.Nat.{le_of_eq, mul_assoc, add-zero, mod-eq_of_lt}
use native.Mathlib.Omega.{arith}
use lib.Count.{count_leading_zeros, leading_top, leading_length}
use lib.Pow.{shl_exact}
use Rattle.interval.specs.Around.{top, power, scale}
use Rattle.interval.proofs.Bounds.{scale_split}
use Rattle.interval.proofs.of.Goals as goal

-- as many digits as there are leading zeros are shifted up
shifted : (x s u : ℕ) → x < 2 ^ 64 → s ≡ count_leading_zeros 64 x → s + u ≡ 4096 → x * 2 ^ s % 2 ^ 64 * power u ≡ x * scale
unfolding power
shifted x s u small e sum =
    let t = leading_length 64 x small in
    ap (λ (m : ℕ). m * power u) (shl_exact t.0 s 64 t.2 (omega (arith, t.1))) ∙ mul_assoc x (2 ^ s) (power u) ∙ ap (λ (m : ℕ). x * m) (scale_split s u sum)

-- a number above 0 has fewer than 64 leading zeros
few : (x p : ℕ) → x < 2 ^ 64 → 0 < x * p % top → count_leading_zeros 64 x % 64 ≡ count_leading_zeros 64 x
few zero p small h = absurd (omega arith)
few (suc x) p small h = mod-eq_of_lt (omega (arith, (leading_top 64 (suc x) (omega arith) small).1))

pub returns : goal.returns
returns c known =
    let x = c.args.x in
    let z = count_leading_zeros 64 x % 64 in
    let e = shifted x z (4096 - z) (omega arith) (few x _ (omega arith) known) (omega arith) in
    rw c.from.ensures (le_of_eq e, le_of_eq (sym e ∙ ap (λ (m : ℕ). m * power (4096 - z)) (sym (add-zero _))))

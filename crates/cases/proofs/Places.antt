-- A list of groups in eight places: one more group takes the first of those that are unused. Assumes nothing.
use mathlib.Core.Path.{◌≡◌, sym, ap, ◌∙◌}
use mathlib.Core.List.{List}
use Prim.Native.Nat.{ℕ, ◌+◌, ◌-◌, ◌<◌, ◌≤◌}
use native.Mathlib.Omega.{arith}
use lib.ListN.{length, take, drop, replicate, set}
use Rattle.std.proofs.lemmas.List.{length-set, drop-set-lt, drop-drop, drop-replicate}
use Rattle.record.specs.declared.Group.{Group}
use Rattle.cases.specs.Places.{no_group, Held, taken}

pub held_next : (places gs : List Group) (count i : ℕ) (g : Group) → take count places ≡ gs → length gs < 8 → i ≤ count → Held places count → Held (set places i g) (count + 1)
held_next places gs count i g are room within held =
    let counted : length (take count places) ≡ count = taken places count held in
    let same : length (take count places) ≡ length gs = ap length are in
    let behind : i < count + 1 = omega arith in
    let one_less : 8 - count - 1 ≡ 8 - (count + 1) = omega arith in
    record {
      few = omega arith;
      eight = length-set places i g ∙ held.eight;
      behind =
          drop-set-lt (count + 1) places i g behind
          ∙ sym (drop-drop 1 count places)
          ∙ ap (drop 1) held.behind
          ∙ drop-replicate 1 (8 - count) no_group
          ∙ ap (λ (n : ℕ). replicate n no_group) one_less;
    }

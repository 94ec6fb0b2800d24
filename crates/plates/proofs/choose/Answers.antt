-- `plates::choose` meets its contract. Assumes nothing.
use mathlib.Core.Path.{◌≡◌, ap, ◌∙◌}
use Prim.Native.Nat.{ℕ, ◌+◌}
use Rattle.std.proofs.Common.{rules}
use Rattle.std.specs.Prelude.{Option, Ok, option_map}
use Rattle.answer.proofs.Checks.{returned}
use Rattle.plates.specs.Plates.{Chosen}
use Rattle.plates.proofs.Choices.{as_chosen, broken_choice, passed_choice}
use Rattle.plates.proofs.choose.Goals as goal

-- the place of what was found
abbrev placed : Option ℕ → Chosen
placed r = Ok (option_map (λ i. i + 1) r)

pub returns-in_err-check : goal.returns-in_err-check
returns-in_err-check c =
    let a = c.args in
    let f = as_chosen a.s a.f a.plates.now _ (returned _ _ c.from_residual.ensures.1 ∙ broken_choice a.s a.f a.plates.now _ c.in_err-check.ensures) in
    record { value = f.0; right_choice = f.1 }

pub returns : goal.returns
returns c =
    let a = c.args in
    let at : c.map.result ≡ option_map (λ i. i + 1) c.first.result = search rules in
    let f = as_chosen a.s a.f a.plates.now _ (ap Ok at ∙ ap placed c.first.ensures ∙ passed_choice a.s a.f a.plates.now c.in_ok-check.ensures) in
    record { value = f.0; right_choice = f.1 }

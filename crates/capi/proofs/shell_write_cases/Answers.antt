-- `capi::shell_write_cases` meets its contract. Assumes nothing.
use mathlib.Core.Path.{ap, ◌∙◌}
use Prim.Native.Nat.{ℕ}
use Rattle.std.specs.Prelude.{Option}
use Rattle.record.specs.declared.Wall.{Wall}
use Rattle.cases.specs.Numbers.{groups_from, cases_from}
use Rattle.writer.specs.Writer.{writing}
use Rattle.capi.proofs.Calls.{numbered_alike, listed_alike}
use Rattle.capi.proofs.shell_write_cases.Goals as goal

pub returns : goal.returns
returns c =
    let a = c.args in
    let f = numbered_alike _ _ _ _ _
    (listed_alike _ c.inner_of.result a.groups.now _ c.groups_of.ensures a.out.now
    ∙ ap (λ (w : Wall). writing (record { wall = w; groups = groups_from a.groups.now; inner = c.inner_of.result }) a.out.now) c.wall_from.ensures
    ∙ ap (λ (i : Option ℕ). writing (cases_from a.r a.t a.l a.e a.fy a.edges a.a a.d (groups_from a.groups.now) i) a.out.now) c.inner_of.ensures)
    c.write_cases.ensures.fact in
    record { number_of_writing = f.0; fact = f.1 }

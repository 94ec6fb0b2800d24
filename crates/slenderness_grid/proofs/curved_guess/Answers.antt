-- `slenderness_grid::curved_guess` meets its contract. Assumes nothing.
use mathlib.Core.Path.{ap, ◌∙◌}
use Prim.Native.Nat.{◌*◌}
use Rattle.interval.specs.declared.Interval.{Interval}
use Rattle.guess.specs.Guess.{guess_from}
use Rattle.interval_root.specs.Leading.{leading_of}
use Rattle.slenderness_grid.proofs.curved_guess.Goals as goal

pub returns : goal.returns
returns g c joined joins =
    let r = c.rough_root-root in
    record {
      root = r.result;
      rough = r.ensures;
      x = c.join-x.result;
      for_x = λ n m a b. joins _ _ _ c.join-x.ensures n (m * r.result) (rw c.lifted.ensures a) (c.times-e.ensures m r.result b c.of.ensures);
      y = c.raised-y.result;
      for_y = c.raised-y.ensures;
      is = c.guess_of.ensures ∙ ap (λ (z : Interval). guess_from (leading_of c.join-x.result) (leading_of z) c.args.d) c.lifted-2.ensures;
    }

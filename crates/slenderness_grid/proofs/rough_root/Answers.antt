-- `slenderness_grid::rough_root` meets its contract. Assumes nothing.
use mathlib.Core.Path.{ap, ◌∙◌}
use Rattle.interval.specs.declared.Interval.{Interval}
use Rattle.guess.specs.declared.Degree.TheVariants.{Two}
use Rattle.guess.specs.Guess.{guess_from}
use Rattle.interval_root.specs.Leading.{leading_of}
use Rattle.slenderness_grid.specs.Guessed.{lifted_of}
use Rattle.slenderness_grid.proofs.rough_root.Goals as goal

pub returns : goal.returns
returns c =
    record {
      a = c.of-a.result;
      b = c.of-b.result;
      for_a = c.of-a.ensures;
      for_b = c.of-b.ensures;
      is = c.guess_of.ensures ∙ ap (λ (y : Interval). guess_from (leading_of c.of-a.result) (leading_of y) Two) (c.lifted-2.ensures ∙ ap lifted_of c.lifted.ensures);
    }

-- `force` meets its contract: the state is the same, and what was gathered is kept without the flipped variables.
use mathlib.Core.Path.{refl}
use Rattle.ball.specs.Machine.{state_in}
use Rattle.ball.proofs.choice.force.Goals as goal

pub returns : goal.returns
unfolding state_in
returns c =
    record {
      result_value = refl;
      by_index = λ cells ready shows.
          record {
            sum = _;
            gathered = c.gather-named.ensures cells _ ready shows;
            without = c.without-forced.ensures;
          };
    }

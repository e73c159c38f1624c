-- `advance` meets its contract, by what the balls came to.
use mathlib.Core.Path.{◌∙◌}
use Rattle.tree.specs.Machine.{answer_in}
use Rattle.search.specs.Machine.{progress_in}
use Rattle.legs.specs.Machine.{progress_end}
use Rattle.legs.proofs.advance.Goals as goal

pub returns-in-Clear : goal.returns-in-Clear
unfolding progress_end progress_in answer_in
returns-in-Clear c = c.end_balls.ensures ∙ rw c.in-Clear.is

pub returns-in-None : goal.returns-in-None
unfolding progress_end progress_in answer_in
returns-in-None c = c.end_balls-in-None.ensures ∙ rw c.in-None.is

pub returns-in-Spent : goal.returns-in-Spent
unfolding progress_end progress_in answer_in
returns-in-Spent c = c.end_balls-in-Spent.ensures ∙ rw c.in-Spent.is

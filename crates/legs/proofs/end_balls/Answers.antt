-- `end_balls` meets its contract: the record has the next ball.
use mathlib.Core.Path.{◌∙◌}
use Rattle.legs.proofs.end_balls.Goals as goal

pub returns : goal.returns
returns c = c.end_leg.ensures ∙ rw c.decided.ensures

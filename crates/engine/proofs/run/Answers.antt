-- `run` meets its contract: the numbers of what `decide` answers.
use mathlib.Core.Path.{ap, ◌∙◌}
use Rattle.decision.specs.Answers.{reply_of, reply_to}
use Rattle.engine.proofs.run.Goals as goal

pub returns : goal.returns
unfolding reply_to
returns c = c.from.ensures ∙ ap reply_of c.decide.ensures

-- `split` meets its contract: the numbers of what `decide_by_splitting` answers.
use mathlib.Core.Path.{ap, ◌∙◌}
use Rattle.decision.specs.Answers.{reply_of, split_to}
use Rattle.engine.proofs.split.Goals as goal

pub returns : goal.returns
unfolding split_to
returns c = c.from.ensures ∙ ap reply_of c.decide_by_splitting.ensures

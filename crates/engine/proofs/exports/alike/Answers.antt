-- `alike` meets its contract: the numbers of what `compare` answers.
use mathlib.Core.Path.{ap, ◌∙◌}
use Rattle.engine.specs.Replies.{comparison_of, alike_to}
use Rattle.engine.proofs.exports.alike.Goals as goal

pub returns : goal.returns
unfolding alike_to
returns c = c.from.ensures ∙ ap comparison_of c.compare.ensures

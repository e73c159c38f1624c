-- `ball_volume` is `code::volume`, in numbers.
use mathlib.Core.Path.{ap, ◌∙◌}
use Rattle.engine.specs.Replies.{result_of}
use Rattle.engine.proofs.exports.ball_volume.Goals as goal

pub returns : goal.returns
returns c = c.from.ensures ∙ ap result_of c.volume.ensures

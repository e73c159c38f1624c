-- `covering_floor` is `code::floor`, in numbers.
use mathlib.Core.Path.{ap, ◌∙◌}
use Rattle.engine.specs.Replies.{result_of}
use Rattle.engine.proofs.exports.covering_floor.Goals as goal

pub returns : goal.returns
returns c = c.from.ensures ∙ ap result_of c.floor.ensures

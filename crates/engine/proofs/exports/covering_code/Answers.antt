-- `covering_code` is `code::code`, in numbers.
use mathlib.Core.Path.{ap, ◌∙◌}
use Rattle.engine.specs.Replies.{result_of}
use Rattle.engine.proofs.exports.covering_code.Goals as goal

pub returns : goal.returns
returns c =
    record {
      answer = c.from.ensures ∙ ap result_of c.code.ensures.answer;
      cells = c.code.ensures.cells;
    }

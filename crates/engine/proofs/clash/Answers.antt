-- `clash` is `deletion::find_core`, in numbers.
use mathlib.Core.Path.{ap, ◌∙◌}
use Rattle.decision.specs.Answers.{reply_of}
use Rattle.deletion.specs.Core.{clash_to}
use Rattle.engine.proofs.clash.Goals as goal

pub returns : goal.returns
unfolding clash_to
returns c =
    record {
      answer = c.from.ensures ∙ ap reply_of c.find_core.ensures.decided;
      cells = c.find_core.ensures.holds;
    }

-- `decided` meets its contract: the verdict is what was found.
use mathlib.Core.Path.{ap}
use Rattle.decision.specs.Answers.{Verdict}
use Rattle.decision.specs.Machine.{decision_in}
use Rattle.decision.proofs.decided.Goals as goal

pub returns : goal.returns
unfolding decision_in
returns c = ap (λ (v : Verdict). record { batch = c.args.batch; method = c.args.method; verdict = v }) c.from.ensures

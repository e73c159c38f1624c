-- `turn` meets its contract, by the verdict.
use mathlib.Core.Path.{refl, ap}
use Rattle.decision.specs.Machine.{verdict_in}
use Rattle.deletion.specs.Core.{by_verdict}
use Rattle.deletion.specs.Machine.{left_out, stays}
use Rattle.deletion.proofs.turn.Goals as goal

pub returns-in-None : goal.returns-in-None
unfolding verdict_in
returns-in-None c = left_out _ (ap verdict_in c.in-None.is)

pub returns-in-Clear : goal.returns-in-Clear
unfolding verdict_in
returns-in-Clear c = rw c.put.ensures (stays _ _ (ap verdict_in c.in-Clear.is))

pub returns-in-Spent : goal.returns-in-Spent
unfolding verdict_in by_verdict
returns-in-Spent c = (refl, λ x y z. rw c.in-Spent.is)

pub returns-in-Refused : goal.returns-in-Refused
unfolding verdict_in by_verdict
returns-in-Refused c = (refl, λ x y z. rw c.in-Refused.is)

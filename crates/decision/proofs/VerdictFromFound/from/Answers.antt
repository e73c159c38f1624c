-- A verdict is the answer of what was found, variant by variant.
use Rattle.tree.specs.Machine.{answer_in}
use Rattle.decision.specs.Machine.{verdict_in}
use Rattle.decision.proofs.VerdictFromFound.from.Goals as goal

pub returns-in-Clear : goal.returns-in-Clear
unfolding verdict_in answer_in
returns-in-Clear c = rw c.in-Clear.is

pub returns-in-None : goal.returns-in-None
unfolding verdict_in answer_in
returns-in-None c = rw c.in-None.is

pub returns-in-Spent : goal.returns-in-Spent
unfolding verdict_in answer_in
returns-in-Spent c = rw c.in-Spent.is

-- `refused` meets its contract.
use mathlib.Core.Path.{refl}
use Rattle.decision.specs.Answers.{refusal}
use Rattle.decision.specs.Machine.{verdict_in, decision_in}
use Rattle.decision.proofs.refused.Goals as goal

pub returns : goal.returns
unfolding decision_in verdict_in refusal
returns c = refl

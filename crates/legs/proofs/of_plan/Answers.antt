-- `of_plan` meets its contract: both numbers are those of the record.
use Rattle.legs.specs.Legs.{of_plan}
use Rattle.legs.proofs.MachineLaws.{both_same, one_differs}
use Rattle.legs.proofs.of_plan.Goals as goal

pub returns-then-checkpoint-plan : goal.returns-then-checkpoint-plan
unfolding of_plan
returns-then-checkpoint-plan c = both_same _ _ _ c.if-checkpoint-plan.true

pub returns-else-checkpoint-plan : goal.returns-else-checkpoint-plan
unfolding of_plan
returns-else-checkpoint-plan c = one_differs _ _ _ c.if-checkpoint-plan.false

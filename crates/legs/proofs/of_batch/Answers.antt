-- `of_batch` meets its contract: both numbers are those of the record.
use Rattle.legs.specs.Legs.{of_batch}
use Rattle.legs.proofs.MachineLaws.{both_same, one_differs}
use Rattle.legs.proofs.of_batch.Goals as goal

pub returns-then-checkpoint-batch : goal.returns-then-checkpoint-batch
unfolding of_batch
returns-then-checkpoint-batch c = both_same _ _ _ c.if-checkpoint-batch.true

pub returns-else-checkpoint-batch : goal.returns-else-checkpoint-batch
unfolding of_batch
returns-else-checkpoint-batch c = one_differs _ _ _ c.if-checkpoint-batch.false

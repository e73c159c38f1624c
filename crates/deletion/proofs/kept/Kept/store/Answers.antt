-- `store` meets its contract: the numbers in the first cells, and the other cells as before.
use Rattle.deletion.specs.Core.{list_after}
use Rattle.deletion.proofs.kept.Kept.store.Goals as goal

pub returns-clause-cells : goal.returns-clause-cells
unfolding list_after
returns-clause-cells c = rw (c.copy_from_slice.ensures.after, c.numbers-numbers.ensures)

-- `table::length_at` meets its contract: the cell is in the table.
use mathlib.Core.Path.{refl}
use Rattle.formula.specs.Machine.{length_at}
use Rattle.formula.proofs.table.length_at.Goals as goal

pub returns : goal.returns
unfolding length_at
returns c = refl

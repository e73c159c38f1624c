-- `table::literal_at` meets its contract: the cell is in its row.
use mathlib.Core.Path.{refl}
use Rattle.formula.specs.Machine.{literal_at}
use Rattle.formula.proofs.table.literal_at.Goals as goal

pub returns : goal.returns
unfolding literal_at
returns c = refl

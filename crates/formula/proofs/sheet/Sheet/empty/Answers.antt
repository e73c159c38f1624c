-- No clause is held.
use Rattle.std.proofs.Common.{refl}
use Rattle.words.specs.Lists.{span}
use Rattle.formula.specs.Machine.{held}
use Rattle.formula.proofs.sheet.Sheet.empty.Goals as goal

pub returns : goal.returns
unfolding held span
returns c = refl

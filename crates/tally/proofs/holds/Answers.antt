-- `holds` meets its contract.
use mathlib.Core.Path.{refl}
use Rattle.tally.specs.Tally.{tally_holds}
use Rattle.tally.proofs.holds.Goals as goal

pub returns : goal.returns
unfolding tally_holds
returns c = refl

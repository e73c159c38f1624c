-- `number::changed` meets its contract, by the change.
use Rattle.tally.specs.Machine.{changed}
use Rattle.tally.proofs.number.changed.Goals as goal

pub returns-in-Count : goal.returns-in-Count
unfolding changed
returns-in-Count c = rw c.in-Count.is c.met_count.ensures

pub returns-in-Toggle : goal.returns-in-Toggle
unfolding changed
returns-in-Toggle c = rw c.in-Toggle.is c.moved.ensures

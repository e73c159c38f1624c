-- `decline_when` meets its contract, by its two ways.
use Rattle.legs.specs.Legs.{decline_when}
use Rattle.legs.proofs.decline_when.Goals as goal

pub returns-then-test : goal.returns-then-test
unfolding decline_when
returns-then-test c = rw (c.at.ensures, c.if-test.true)

pub returns : goal.returns
unfolding decline_when
returns c = rw c.if-test.false

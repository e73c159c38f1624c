-- `about` meets its contract, field by field.
use borrow.Author.Rules.{rules}
use Rattle.legs.specs.Legs.{about}
use Rattle.legs.proofs.about.Goals as goal

pub returns : goal.returns
unfolding about
returns c = search rules

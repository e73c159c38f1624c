-- `all_kept` meets its contract, by its two ways.
use Rattle.words.specs.Refusals.{number_of}
use Rattle.legs.specs.Legs.{all_kept}
use Rattle.legs.specs.Machine.{sheet_number}
use Rattle.legs.proofs.all_kept.Goals as goal

pub returns-in-None : goal.returns-in-None
unfolding all_kept
returns-in-None c = rw c.in-None.is

pub returns-in-Some : goal.returns-in-Some
unfolding all_kept sheet_number number_of
returns-in-Some c = rw (c.at.ensures, c.in-Some.is)

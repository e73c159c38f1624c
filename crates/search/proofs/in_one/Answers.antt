-- `in_one` meets its contract, by its three ways.
use Rattle.std.proofs.Common.{refl}
use Rattle.tree.specs.Machine.{answer_in}
use Rattle.tree.specs.Legs.{cut}
use Rattle.search.specs.Machine.{progress_in}
use Rattle.search.proofs.in_one.Goals as goal

pub returns-in-Clear : goal.returns-in-Clear
unfolding answer_in cut progress_in
returns-in-Clear c E = rw c.in-Clear.is refl

pub returns-in-None : goal.returns-in-None
unfolding answer_in cut progress_in
returns-in-None c E = rw c.in-None.is refl

pub returns-in-Spent : goal.returns-in-Spent
unfolding answer_in cut progress_in
returns-in-Spent c E = rw c.in-Spent.is refl

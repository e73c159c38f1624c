-- `begin` meets its contract: the sheet's refusal, or a count from nothing.
use Rattle.formula.proofs.ResultLaws.{passed_on}
use Rattle.tally.specs.Tally.{tally_in}
use Rattle.tally.specs.Machine.{changed}
use Rattle.tally.proofs.MachineLaws.{begin_stops, begin_made}
use Rattle.tally.proofs.begin.Goals as goal

pub returns-in_err-read : goal.returns-in_err-read
returns-in_err-read c =
    rw (passed_on c.from_residual.result _ c.from_residual.ensures.1) (begin_stops _ _ _ c.in_err-read.ensures)

pub returns : goal.returns
unfolding tally_in changed
returns c = begin_made _ _ c.read.new.self c.in_ok-read.ensures _ _ c.store.ensures c.zero-none.ensures _ _ c.pass.ensures

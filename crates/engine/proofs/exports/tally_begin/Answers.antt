-- `tally_begin` meets its contract: what `begin` comes to, in numbers.
use Rattle.engine.proofs.MachineLaws.{tally_made}
use Rattle.engine.proofs.exports.tally_begin.Goals as goal

pub returns : goal.returns
returns c = tally_made _ _ _ _ _ c.begin.ensures c.from.ensures

-- `tally_toggle` meets its contract: what `toggle` comes to, in numbers.
use Rattle.engine.proofs.MachineLaws.{tally_made}
use Rattle.engine.proofs.exports.tally_toggle.Goals as goal

pub returns : goal.returns
returns c = tally_made _ _ _ _ _ c.toggle.ensures c.from.ensures

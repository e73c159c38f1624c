-- `tally_holds` meets its contract: a truth value as a number.
use mathlib.Core.Path.{sym, ◌∙◌}
use Rattle.engine.proofs.exports.tally_holds.Goals as goal

pub returns-then-holds : goal.returns-then-holds
returns-then-holds c = rw (sym c.holds.ensures ∙ c.if-holds.true)

pub returns-else-holds : goal.returns-else-holds
returns-else-holds c = rw (sym c.holds.ensures ∙ c.if-holds.false)

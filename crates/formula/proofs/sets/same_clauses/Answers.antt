-- `sets::same_clauses` meets its contract: the clauses of each table stand in the other.
use mathlib.Core.Path.{sym, ◌∙◌}
use Rattle.formula.specs.Sets.{same_clauses}
use Rattle.formula.proofs.sets.same_clauses.Goals as goal

pub returns-then-clauses_stand : goal.returns-then-clauses_stand
unfolding same_clauses
returns-then-clauses_stand c = rw (sym c.clauses_stand.ensures ∙ c.if-clauses_stand.true) c.clauses_stand-then-clauses_stand.ensures

pub returns-else-clauses_stand : goal.returns-else-clauses_stand
unfolding same_clauses
returns-else-clauses_stand c = rw (sym c.clauses_stand.ensures ∙ c.if-clauses_stand.false) c.if-clauses_stand.false

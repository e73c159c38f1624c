-- `sets::same_set` meets its contract: each clause is within the other.
use mathlib.Core.Path.{sym, ◌∙◌}
use Rattle.formula.specs.Sets.{same_set}
use Rattle.formula.proofs.sets.same_set.Goals as goal

pub returns-then-clause_within : goal.returns-then-clause_within
unfolding same_set
returns-then-clause_within c = rw (sym c.clause_within.ensures ∙ c.if-clause_within.true) c.clause_within-then-clause_within.ensures

pub returns-else-clause_within : goal.returns-else-clause_within
unfolding same_set
returns-else-clause_within c = rw (sym c.clause_within.ensures ∙ c.if-clause_within.false) c.if-clause_within.false

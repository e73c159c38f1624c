-- `sets::stands_still` meets its contract: a clause that is the same set as one of the table's is found.
use Rattle.std.proofs.Common.{ap, sym, ◌∙◌}
use Rattle.formula.specs.Sets.{same_set}
use Rattle.words.proofs.ListLaws.{in_some}
use Rattle.formula.proofs.TableLaws.{held_in}
use Rattle.formula.proofs.sets.stands_still.Goals as goal

pub returns-then-same_set : goal.returns-then-same_set
returns-then-same_set c =
    sym
    (in_some _ _ _ (held_in _ _ _ c.if-i-clauses.true)
    (ap (same_set _) (sym c.clause.ensures.literals) ∙ sym c.same_set.ensures ∙ c.if-same_set.true))

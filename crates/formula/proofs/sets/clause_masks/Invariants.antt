-- Before each turn the masks of the clauses before i are stored.
use Rattle.formula.specs.Machine.{Masks}
use Rattle.formula.proofs.sets.clause_masks.Given as goal

abbrev pub invariant-loop-i : goal.invariant-loop-i
invariant-loop-i l = Masks l.i l.clauses.cells.now l.masks

-- `clause_sets::clause_set` meets its contract: literal by literal, its variable joins the set.
use Rattle.words.specs.Machine.{set_of}
use Rattle.planes.specs.Machine.{NamedBy}
use Rattle.planes.proofs.OccurLaws.{first_of}
use Rattle.planes.proofs.clause_sets.clause_set.Given as goal

abbrev pub invariant-loop-word : goal.invariant-loop-word
invariant-loop-word l = NamedBy (set_of l.variables) (first_of l.clause l.word-index)

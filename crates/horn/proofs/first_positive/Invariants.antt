-- `first_positive` meets its contract: before each turn no literal before number j is positive.
use Rattle.horn.proofs.MachineLaws.{PositivesFrom}
use Rattle.horn.proofs.first_positive.Given as goal

abbrev pub invariant-loop-word : goal.invariant-loop-word
invariant-loop-word l = PositivesFrom l.clause l.word-index

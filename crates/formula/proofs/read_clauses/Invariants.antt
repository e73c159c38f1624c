-- `read_clauses` is `take_clauses`. The loop's invariant is that of ClausesLaws.antt, with a law for each way out; the measure is
-- the words left.
use Rattle.std.proofs.Common.{◌-◌}
use Rattle.formula.specs.Sheet.{words}
use Rattle.formula.proofs.ClausesLaws.{ClausesSofar}
use Rattle.formula.proofs.read_clauses.Given as goal

abbrev pub invariant-loop-at : goal.invariant-loop-at
invariant-loop-at l = ClausesSofar l.n (words l.part) l.cells l.at l.k

abbrev pub decreases-loop-at : goal.decreases-loop-at
decreases-loop-at l = l.count - l.at

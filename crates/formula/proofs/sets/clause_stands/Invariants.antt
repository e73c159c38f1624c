-- Before each turn, whether the clause is one of the table's depends on the table's clauses from k on.
use Rattle.std.proofs.Common.{◌≡◌, map, drop}
use Rattle.words.specs.Lists.{some}
use Rattle.formula.specs.Formula.{literal_of}
use Rattle.formula.specs.Machine.{held}
use Rattle.formula.specs.Sets.{same_set}
use Rattle.formula.proofs.sets.clause_stands.Given as goal

abbrev pub invariant-loop-k : goal.invariant-loop-k
invariant-loop-k l =
    let is = same_set (map literal_of l.clause) in
    let clauses = held l.clauses.count l.clauses.cells.now in
    some is (drop l.k clauses) ≡ some is clauses

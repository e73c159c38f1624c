-- `is_horn` meets its contract: before each turn, whether all clauses have at most one positive literal depends on those from i on.
use mathlib.Core.Path.{◌≡◌}
use lib.ListN.{drop}
use Rattle.formula.specs.Machine.{held}
use Rattle.horn.specs.Horn.{is_horn}
use Rattle.horn.proofs.is_horn.Given as goal

abbrev pub invariant-loop-i : goal.invariant-loop-i
invariant-loop-i l = is_horn (drop l.i (held l.clauses.count l.clauses.cells.now)) ≡ is_horn (held l.clauses.count l.clauses.cells.now)

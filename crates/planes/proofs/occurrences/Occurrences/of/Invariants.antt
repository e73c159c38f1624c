-- `of` meets its contract: clause by clause, `mark` adds the clause's lane to the rows of its literals, and `put_set` its set.
use Rattle.std.specs.Prelude.{◌≡◌}
use Rattle.planes.specs.Machine.{Occurs}
use Rattle.planes.proofs.occurrences.Occurrences.of.Given as goal

abbrev pub invariant-loop-i : goal.invariant-loop-i
invariant-loop-i l = (l.made.1.0 ≡ l.sheet.count) × Occurs l.i l.sheet.cells l.made.0

-- `open_rows` meets its contract: the rows from cell `at` on are right.
use mathlib.Core.Path.{◌≡◌}
use mathlib.Core.List.{List}
use Prim.Native.Nat.{ℕ}
use lib.ListN.{length}
use Rattle.formula.specs.Machine.{Table}
use Rattle.planes.specs.Machine.{Occurs}
use Rattle.splitting.specs.Machine.{open_cells}
use Rattle.splitting.proofs.SetLaws.{OpensFrom}
use Rattle.splitting.proofs.clauses.open_rows.Given as goal

abbrev pub invariant-loop-at : goal.invariant-loop-at
invariant-loop-at l =
    (length l.rows ≡ open_cells) × ((k : ℕ) (cells : List ℕ) → Table l.n k cells → Occurs k cells l.occ.table → OpensFrom l.n k cells l.at l.rows)

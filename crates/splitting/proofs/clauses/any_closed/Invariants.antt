-- `any_closed` meets its contract: the words before w have no such clause.
use mathlib.Core.List.{List}
use Prim.Native.Nat.{ℕ, ◌*◌, ◌≤◌}
use Rattle.planes.specs.Machine.{lanes, First}
use Rattle.splitting.specs.Splitting.{Node}
use Rattle.splitting.specs.Machine.{Unmet, Opens}
use Rattle.splitting.proofs.SetLaws.{closed_at}
use Rattle.splitting.proofs.clauses.any_closed.Given as goal

abbrev pub invariant-loop-w : goal.invariant-loop-w
invariant-loop-w l =
    ((n : ℕ) (cells : List ℕ) (x : Node) → l.j ≤ n → Opens n l.occ.count cells l.rows → Unmet l.occ.count cells x l.set →
    (r : ℕ) → First (lanes * l.w) l.occ.count (closed_at cells l.j x) r → First 0 l.occ.count (closed_at cells l.j x) r)

-- `last_literals` meets its contract: a turn of the loop for each literal of the clause.
use Rattle.words.specs.Machine.{set_of}
use Rattle.ball.specs.Machine.{state_in, Turn}
use Rattle.ball.proofs.ball.Ball.last_literals.Given as goal

abbrev pub invariant-loop-j : goal.invariant-loop-j
invariant-loop-j l =
    Turn l.self.occ.now.count l.self.sheet.now.cells l.self.occ.now.table l.planes (state_in l.at) (set_of l.at.forced) l.clause 1 l.calls l.self.budget l.made l.j

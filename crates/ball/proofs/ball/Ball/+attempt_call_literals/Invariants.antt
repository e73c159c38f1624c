-- The cycle of calls {attempt, call, literals}: a call, the literals that it tries and the call for one literal give what the definition
-- gives, cut at the budget. The measure combines the flips left and the literals left: ten for each flip, for a call nine more, and for the
-- loop over its at most eight literals one more for each, which the loop itself counts down; each literal tried makes a call with one flip less.
use Rattle.std.proofs.Common.{◌+◌, ◌*◌}
use Rattle.words.specs.Machine.{set_of}
use Rattle.formula.specs.Machine.{length_at}
use Rattle.ball.specs.Machine.{state_in, Turn}
use Rattle.ball.proofs.ball.Ball.+attempt_call_literals.Given as goal

abbrev pub decreases-attempt : goal.decreases-attempt
decreases-attempt l = l.left * 10

abbrev pub decreases-call : goal.decreases-call
decreases-call l = l.left * 10 + 9

abbrev pub decreases-literals : goal.decreases-literals
decreases-literals l = l.left * 10 + length_at l.self.now.sheet.now.cells l.clause

abbrev pub invariant-literals-loop-j : goal.invariant-literals-loop-j
invariant-literals-loop-j l =
    Turn l.self.occ.now.count l.self.sheet.now.cells l.self.occ.now.table l.planes (state_in l.at) (set_of l.at.forced) l.clause l.left l.calls l.self.budget l.made l.j

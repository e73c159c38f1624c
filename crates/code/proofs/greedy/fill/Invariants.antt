-- `code::fill` writes the code. The invariant: the code so far stands in the first cells, and greedy goes on with the flagged words.
use Prim.Native.Nat.{◌-◌, ◌^◌}
use Rattle.code.specs.Machine.{Growing}
use Rattle.code.proofs.greedy.fill.Given as goal

abbrev pub invariant-loop-gains : goal.invariant-loop-gains
invariant-loop-gains l = Growing l.fn.plan.size l.fn.plan.radius l.ball l.gains l.left l.initial.table l.table l.count

abbrev pub decreases-loop-gains : goal.decreases-loop-gains
decreases-loop-gains l = 2 ^ l.fn.plan.size - l.count

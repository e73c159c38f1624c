-- `code::lower` takes one from each gain of the ball around x. The invariant: it has done so for the words passed.
use lib.ListN.{take}
use Rattle.code.specs.Machine.{Lowered}
use Rattle.code.proofs.greedy.lower.Given as goal

abbrev pub invariant-loop-offset : goal.invariant-loop-offset
invariant-loop-offset l = Lowered (take l.offset-index l.ball) l.x l.initial.gains l.gains

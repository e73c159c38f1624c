-- `code::cover` lets the word w join. The invariant: the flags around w are cleared for the words passed, and the gains count the
-- others.
use Rattle.code.specs.Machine.{Joining}
use Rattle.code.proofs.greedy.cover.Given as goal

abbrev pub invariant-loop-offset : goal.invariant-loop-offset
invariant-loop-offset l = Joining l.ball l.gains l.initial.left l.left l.w l.offset-index

-- `centre` meets its contract: after each turn the partial centre and the blocks still to come stand for the whole centre.
use Rattle.search.specs.Machine.{Midway}
use Rattle.search.proofs.codes.Codes.centre.Given as goal

abbrev pub invariant-loop-j : goal.invariant-loop-j
invariant-loop-j l = Midway l.self l.i l._j l.made

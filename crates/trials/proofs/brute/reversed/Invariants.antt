-- `reversed` meets its contract: before each turn the bits are the lowest v of x the other way round.
use Rattle.std.proofs.Common.{◌≡◌}
use Rattle.trials.specs.Brute.{reversed}
use Rattle.trials.proofs.brute.reversed.Given as goal

abbrev pub invariant-loop-v : goal.invariant-loop-v
invariant-loop-v l = l.bits ≡ reversed l.x l.v

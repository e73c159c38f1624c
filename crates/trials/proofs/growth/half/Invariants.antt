-- `half` is safe and ends: what is left to the middle falls.
use Rattle.std.proofs.Common.{◌-◌}
use Rattle.trials.proofs.growth.half.Given as goal

abbrev pub decreases-loop-at : goal.decreases-loop-at
decreases-loop-at l = l.middle - l.at

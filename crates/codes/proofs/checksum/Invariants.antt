-- The sums of `codes::checksum` fit.
use Rattle.std.proofs.Common.{◌<◌}
use Rattle.codes.proofs.checksum.Given as goal

abbrev pub invariant-loop-cell : goal.invariant-loop-cell
invariant-loop-cell l = l.sum < 1000003

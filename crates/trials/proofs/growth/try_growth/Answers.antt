-- `try_growth` draws a budget: half of the calls and one are a number of 32 bits.
use Rattle.std.proofs.Common.{arith}
use Rattle.trials.proofs.growth.try_growth.Goals as goal

pub overflow_add-run : goal.overflow_add-run
overflow_add-run g c = omega arith

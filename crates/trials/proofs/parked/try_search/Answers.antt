-- `try_search` draws budgets: a fourth of the calls and one are a number of 32 bits.
use Rattle.std.proofs.Common.{arith}
use Rattle.trials.proofs.parked.try_search.Goals as goal

pub overflow_add-run : goal.overflow_add-run
overflow_add-run g c = omega arith

use Rattle.std.proofs.Common.{ap}
use lib.Bits.{bit_xor}
use Rattle.code.proofs.MachineLaws.{lower_start, lower_lt, lower_pos, lower_next}
use Rattle.code.proofs.greedy.lower.Goals as goal

pub loop-offset-init : goal.loop-offset-init
loop-offset-init c = lower_start _ _

pub bounds-gains-w : goal.bounds-gains-w
bounds-gains-w c = lower_lt c.requires c.loop-offset-test.true (ap (bit_xor c.args.x) c.from.ensures) c.loop-offset.invariant

pub overflow_sub-gains : goal.overflow_sub-gains
overflow_sub-gains c = lower_pos c.requires c.loop-offset-test.true (ap (bit_xor c.args.x) c.from.ensures) c.loop-offset.invariant

pub bounds-gains-w-in-loop-offset : goal.bounds-gains-w-in-loop-offset
bounds-gains-w-in-loop-offset c = lower_lt c.requires c.loop-offset-test.true (ap (bit_xor c.args.x) c.from.ensures) c.loop-offset.invariant

pub loop-offset-preserved : goal.loop-offset-preserved
loop-offset-preserved c = lower_next c.requires c.loop-offset-test.true (ap (bit_xor c.args.x) c.from.ensures) c.loop-offset.invariant

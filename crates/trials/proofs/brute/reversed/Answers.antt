use Rattle.std.proofs.Common.{sym, refl, arith}
use Rattle.trials.specs.Brute.{reversed}
use Rattle.trials.proofs.BruteLaws.{reversed_next, reversed_few}
use Rattle.trials.proofs.brute.reversed.Goals as goal

pub loop-v-init : goal.loop-v-init
unfolding reversed
loop-v-init c = refl

pub overflow_mul-bits : goal.overflow_mul-bits
overflow_mul-bits c = omega (arith, c.loop-v.invariant, reversed_few c.args.x c.loop-v.v (omega arith))

pub overflow_add-bits : goal.overflow_add-bits
overflow_add-bits c = omega (arith, c.loop-v.invariant, reversed_few c.args.x c.loop-v.v (omega arith))

pub loop-v-preserved : goal.loop-v-preserved
loop-v-preserved c = rw c.loop-v.invariant (sym (reversed_next _ c.loop-v.v))

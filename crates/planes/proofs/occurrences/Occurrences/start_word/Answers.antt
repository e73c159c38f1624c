use native.Mathlib.Omega.{arith}
use Rattle.planes.proofs.StartLaws.{row_below, summed_none, summed_more}
use Rattle.planes.proofs.occurrences.Occurrences.start_word.Goals as goal

pub loop-v-init : goal.loop-v-init
loop-v-init c =
    let a = c.args in
    summed_none a.self.now.count a.self.now.table a.positive a.w c.past.result c.past.ensures

pub bounds-self-row : goal.bounds-self-row
bounds-self-row c = omega (arith, row_below c.args.positive c.loop-v.v (omega arith))

pub loop-v-preserved : goal.loop-v-preserved
loop-v-preserved c =
    let a = c.args in
    let loop = c.loop-v in
    let row = rw c.of.ensures at c.moved-word.ensures in
    summed_more loop.v a.self.now.count a.self.now.table a.positive a.w loop.word _ loop.invariant row

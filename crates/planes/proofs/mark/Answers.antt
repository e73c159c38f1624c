use Prim.Native.Nat.{◌<◌}
use native.Mathlib.Omega.{arith}
use lib.ListN.{length, length-set}
use Rattle.planes.proofs.OccurLaws.{marked_none, mark_step, first_all}
use Rattle.planes.proofs.mark.Goals as goal

pub loop-word-init : goal.loop-word-init
loop-word-init c = (omega arith, marked_none _ _)

pub loop-word-preserved : goal.loop-word-preserved
loop-word-preserved c =
    let loop = c.loop-word in
    let more : loop.word-index < length c.args.clause.now = omega arith in
    let marked = mark_step c.args.clause.now c.args.occ.now loop.occ c.args.i loop.word-index c.requires.i_lt_lane_count more
    (c.requires.by_index loop.word-index more) loop.invariant.0 loop.invariant.1 in
    (simp length-set loop.invariant.0, marked)

pub returns : goal.returns
returns c = rw (first_all c.args.clause.now c.loop-word.word-index (omega arith)) at c.loop-word.invariant.1

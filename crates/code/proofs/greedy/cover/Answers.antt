use Rattle.std.proofs.Common.{ap}
use lib.Bits.{bit_xor}
use Rattle.code.proofs.MachineLaws.{join_start, join_lt, join_set, join_clear, join_end, flag_lowers}
use Rattle.code.proofs.greedy.cover.Goals as goal
use Rattle.code.proofs.greedy.cover.Goals.{then-left-x, else-left-x}

pub loop-offset-init : goal.loop-offset-init
loop-offset-init c = join_start c.requires.counts_2

pub bounds-left-x : goal.bounds-left-x
bounds-left-x c =
    join_lt c.loop-offset.invariant c.loop-offset-test.true (ap (bit_xor c.args.w) c.from.ensures) c.requires.w_in_bounds

pub lower-requires : goal.lower-requires
lower-requires c =
    let inv = c.loop-offset.invariant in
    flag_lowers inv.counts (join_lt inv c.loop-offset-test.true (ap (bit_xor c.args.w) c.from.ensures) c.requires.w_in_bounds) c.if-left-x.true

pub loop-offset-preserved : goal.loop-offset-preserved
loop-offset-preserved c =
    let inv = c.loop-offset.invariant in
    let inside = c.loop-offset-test.true in
    let reached = ap (bit_xor c.args.w) c.from.ensures in
    let word = c.requires.w_in_bounds in
    elim c.if-left-x.branch [
      | then-left-x w ↦
          rw (w.gains-is, w.left-is) (join_set inv inside reached word w.if-left-x.true w.lower.ensures)
      | else-left-x w ↦ rw (w.gains-is, w.left-is) (join_clear inv inside reached word w.if-left-x.false)
    ]

pub returns-clause-left : goal.returns-clause-left
returns-clause-left c = join_end c.loop-offset.invariant c.loop-offset-test.false

use mathlib.Core.Path.{◌≡◌, refl, ◌∙◌, sym}
use Prim.Native.Nat.{◌^◌}
use native.Mathlib.Nat.{pos_of_ne-zero}
use lib.Seq.{length-take-le}
use Rattle.code.specs.Code.{ball as ballOf, words_of}
use Rattle.code.proofs.GrowLaws.{part_length, part_at, grow_start, grow_lt, grow_room, grow_fits, grow_next, grow_end}
use native.Mathlib.Omega.{arith}
use Rattle.code.proofs.greedy.fill.Goals as goal

pub loop-gains-init : goal.loop-gains-init
unfolding ballOf words_of
loop-gains-init c =
    let power = c.power-n in
    let gains = refl in
    let flags = refl in
    let words : power.result ≡ 2 ^ c.args.plan.size = power.ensures.0 in
    let small = power.ensures.1 in
    let size = length-take-le _ _ c.list_ball-size.ensures.0 in
    grow_start (rw (← words) small) c.requires (rw words at c.list_ball-size.ensures.1)
    (part_length 4096 _ _ gains small ∙ words)
    (part_length 4096 _ _ flags small ∙ words)
    (λ w l. part_at 4096 _ _ gains small 0 w (rw words l) ∙ sym size)
    (λ x l. part_at 4096 _ _ flags small _ x (rw words l))

pub offset_bounds-gains-w : goal.offset_bounds-gains-w
offset_bounds-gains-w c =
    let g = c.loop-gains.invariant in
    omega (arith, grow_lt g c.best-w.ensures, g.small, g.words)

pub bounds-gains-w : goal.bounds-gains-w
bounds-gains-w c = let g = c.loop-gains.invariant in rw g.counts.size (grow_lt g c.best-w.ensures)

pub returns-then-gains-w-eq0 : goal.returns-then-gains-w-eq0
returns-then-gains-w-eq0 c =
    grow_end c.loop-gains.invariant c.best-w.ensures c.if-gains-w-eq0.true

pub bounds-table-count : goal.bounds-table-count
bounds-table-count c =
    grow_fits c.loop-gains.invariant c.best-w.ensures (pos_of_ne-zero c.if-gains-w-eq0.false)

pub loop-gains-smaller : goal.loop-gains-smaller
loop-gains-smaller c =
    let inv = c.loop-gains.invariant in
    omega (arith, grow_room inv c.best-w.ensures (pos_of_ne-zero c.if-gains-w-eq0.false))

pub loop-gains-preserved : goal.loop-gains-preserved
loop-gains-preserved c =
    let called = c.cover in
    let inv = c.loop-gains.invariant in
    grow_next inv c.best-w.ensures (pos_of_ne-zero c.if-gains-w-eq0.false)
    called.ensures.counts called.ensures.left called.auto.left

use Rattle.std.proofs.Common.{◌<◌, length, arith}
use Rattle.words.specs.Bits.{width}
use Rattle.formula.proofs.TableLaws.{table_wider, held_cons, length_held}
use Rattle.tally.proofs.MachineLaws.{passing_start, passing_next, passing_end}
use Rattle.tally.proofs.pass.Goals as goal

pub loop-i-init : goal.loop-i-init
loop-i-init c = passing_start _ _ _ _

pub bounds-met-i : goal.bounds-met-i
bounds-met-i c = omega (arith, c.loop-i.invariant.size, c.args.sheet.now.holds.room, c.requires)

pub changed-new-requires : goal.changed-new-requires
changed-new-requires c =
    let s = c.args.sheet.now in
    let table = table_wider s.n width s.count s.cells s.small s.holds in
    rw c.clause.ensures.literals (table.each _ c.loop-i-test.true)

pub bounds-met-i-in-loop-i : goal.bounds-met-i-in-loop-i
bounds-met-i-in-loop-i c = omega (arith, c.loop-i.invariant.size, c.args.sheet.now.holds.room, c.requires)

pub loop-i-preserved : goal.loop-i-preserved
loop-i-preserved c =
    let s = c.args.sheet.now in
    let clause = held_cons s.count s.cells _ c.loop-i-test.true in
    let room : c.loop-i.i < length c.args.met.now = omega (arith, s.holds.room, c.requires) in
    rw c.recounted-count.ensures (passing_next _ _ _ _ _ _ _ c.loop-i.invariant _ clause room _ (rw c.clause.ensures.literals at c.changed-new.ensures))

pub shape_of-met : goal.shape_of-met
shape_of-met c = c.loop-i.invariant.size

pub returns : goal.returns
returns c =
    let s = c.args.sheet.now in
    passing_end _ _ _ _ _ _ _ c.loop-i.invariant (omega (arith, length_held s.count s.cells, c.loop-i-test.false))

use native.Mathlib.Omega.{arith}
use mathlib.Core.Path.{refl}
use Rattle.planes.specs.Machine.{occurrence_cells}
use Rattle.planes.proofs.OccurLaws.{occurs_none, occurs_more}
use Rattle.planes.proofs.occurrences.Occurrences.of.Goals as goal

pub loop-i-init : goal.loop-i-init
loop-i-init c = (refl, occurs_none occurrence_cells c.args.sheet.now.cells)

pub mark-requires : goal.mark-requires
mark-requires c =
    record {
      i_lt_lane_count = omega (arith, c.args.sheet.now.holds.room);
      by_index = λ j l. (c.clause-clause.ensures.each j l).1;
    }

pub clause_set-requires : goal.clause_set-requires
clause_set-requires c = c.clause-clause.ensures.each

pub put_set-requires : goal.put_set-requires
put_set-requires c = omega (arith, c.args.sheet.now.holds.room)

pub loop-i-preserved : goal.loop-i-preserved
loop-i-preserved c =
    let loop = c.loop-i in
    let literals = c.clause-clause.ensures.literals in
    let marked = rw literals at c.mark.ensures in
    let named = rw literals at c.clause_set.ensures in
    (loop.invariant.0, occurs_more loop.i _ _ loop.made.0 _ _ loop.invariant.1 marked named c.put_set.ensures)

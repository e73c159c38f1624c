use mathlib.Core.Path.{sym, ap, ◌∙◌}
use Prim.Native.Nat.{◌<◌}
use native.Mathlib.Omega.{arith}
use Rattle.formula.proofs.TableLaws.{held_at, held_past, table_row}
use Rattle.ball.specs.Ball.{reading}
use Rattle.ball.specs.Machine.{reading_in}
use Rattle.ball.proofs.ClauseLaws.{counting_none, counting_start, counting_small, counting_next, counting_end}
use Rattle.ball.proofs.reading.clause_reading.Goals as goal

pub returns-then-sheet-i : goal.returns-then-sheet-i
unfolding reading_in
returns-then-sheet-i c =
    let sheet = c.args.sheet.now in
    sym (ap (reading _) (held_past sheet.count sheet.cells c.args.i c.if-sheet-i.true) ∙ counting_none _)

pub loop-j-init : goal.loop-j-init
unfolding reading_in
loop-j-init c = counting_start _ _ _ (table_row c.args.sheet.now.holds c.args.i (omega arith))

pub with_literal-reading-requires : goal.with_literal-reading-requires
unfolding reading_in
with_literal-reading-requires c =
    counting_small _ _ _ (table_row c.args.sheet.now.holds c.args.i (omega arith)) _ _ c.loop-j.invariant

pub loop-j-preserved : goal.loop-j-preserved
loop-j-preserved c =
    let counted = rw c.literal-literal.ensures at c.with_literal-reading.ensures in
    counting_next _ _ _ (table_row c.args.sheet.now.holds c.args.i (omega arith)) _ _ c.loop-j.invariant _ (omega arith) counted

pub returns : goal.returns
returns c =
    let sheet = c.args.sheet.now in
    let inside : c.args.i < sheet.count = omega arith in
    counting_end _ _ _ (table_row sheet.holds c.args.i inside) _ _ c.loop-j.invariant (omega arith)
    ∙ ap (reading _) (sym (held_at sheet.count sheet.cells c.args.i inside))

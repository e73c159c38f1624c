-- `holding` meets its contract: all lanes with no literal to hold, and else the word of the row.
use mathlib.Core.Path.{refl, ◌∙◌}
use native.Mathlib.Omega.{arith}
use borrow.Author.Tests.{eq-eqb, ne_eqb, le-leb}
use Rattle.planes.proofs.LaneLaws.{bit_from}
use Rattle.planes.proofs.occurrences.Occurrences.holding.Goals as goal

pub returns-then-row-eq0 : goal.returns-then-row-eq0
returns-then-row-eq0 c j l = rw (eq-eqb c.args.row.word 0 c.if-row-eq0.true) (bit_from 0 j (omega arith) l ∙ le-leb 0 j (omega arith))

pub returns-else-row-eq0 : goal.returns-else-row-eq0
returns-else-row-eq0 c j l = rw (ne_eqb c.args.row.word 0 c.if-row-eq0.false, c.first_cell.ensures.0) refl

-- The rows of its table can be read.
use Rattle.formula.proofs.TableLaws.{table_rows}
use Rattle.formula.proofs.sheet.Sheet.clauses.Goals as goal

pub invariant_of-result : goal.invariant_of-result
invariant_of-result c = record { fit = table_rows c.args.self.now.holds }

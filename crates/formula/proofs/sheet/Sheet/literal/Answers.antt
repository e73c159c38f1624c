-- A cell of the table is the word of a literal.
use Rattle.std.proofs.Common.{arith}
use Rattle.formula.proofs.TableLaws.{clause_known}
use Rattle.formula.proofs.sheet.Sheet.literal.Goals as goal

pub invariant_of-result : goal.invariant_of-result
invariant_of-result c =
    let s = c.args.self.now in
    let word = clause_known s.n s.count s.cells s.holds c.args.i c.requires.0 c.args.j c.requires.1 in
    record { known = rw c.literal_at.ensures (word.0, omega (arith, word.1, s.small)) }

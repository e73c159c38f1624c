-- The words of a clause's literals are those of its row, and each is a literal's.
use Rattle.std.proofs.Common.{arith}
use Rattle.formula.proofs.TableLaws.{words_known}
use Rattle.formula.proofs.sheet.Sheet.clause.Goals as goal

pub returns-clause-literals : goal.returns-clause-literals
returns-clause-literals c = rw c.clauses.ensures.0 at c.clause.ensures.literals

pub returns-clause-each : goal.returns-clause-each
returns-clause-each c j h =
    let s = c.args.self.now in
    let words = rw c.clauses.ensures.0 at c.clause.ensures.literals in
    let word = words_known (s.holds.each c.args.i c.requires) _ words j h in
    (word.0, omega (arith, word.1, s.small))

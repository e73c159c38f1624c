-- `pass` meets its contract: clause by clause.
use Rattle.formula.specs.Machine.{held}
use Rattle.tally.specs.Machine.{changed, Passing}
use Rattle.tally.proofs.pass.Given as goal

abbrev pub invariant-loop-i : goal.invariant-loop-i
invariant-loop-i l = Passing (changed l.change) (held l.sheet.count l.sheet.cells) l.initial.met l.unmet l.i l.met l.count

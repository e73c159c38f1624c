-- What a sheet that was read stands for.
use Rattle.formula.specs.declared.sheet.Sheet.{Sheet}
use Rattle.formula.specs.Formula.{Formula}
use Rattle.formula.specs.Machine.{held}

abbrev pub formula_of : Sheet → Formula
formula_of s = record { batch = s.batch; n = s.n; clauses = held s.count s.cells }

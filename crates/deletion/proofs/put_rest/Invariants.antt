use Rattle.std.proofs.Common.{◌≡◌, ◌++◌, take}
use Rattle.words.specs.Lists.{span}
use Rattle.formula.specs.Reading.{formula_of}
use Rattle.deletion.specs.Core.{only}
use Rattle.deletion.proofs.put_rest.Given as goal

abbrev pub invariant-loop-number : goal.invariant-loop-number
invariant-loop-number l = formula_of l.trial ≡ only (formula_of l.sheet) (span 0 l.i ++ take l.number-index l.kept)

use Rattle.std.proofs.Common.{refl, arith}
use Rattle.formula.specs.Formula.{bit_of, literal_of}
use Rattle.formula.proofs.literal.Literal.bit.Goals as goal

pub returns : goal.returns
unfolding bit_of literal_of
returns c = (refl, omega arith)

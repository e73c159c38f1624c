use Rattle.std.proofs.Common.{refl}
use Rattle.formula.specs.Formula.{literal_of}
use Rattle.formula.proofs.literal.Literal.is_positive.Goals as goal

pub returns : goal.returns
unfolding literal_of
returns c = refl

-- The assignment meets a literal whose variable's bit is its sign.
use Rattle.std.proofs.Common.{refl}
use Rattle.formula.specs.Formula.{met}
use Rattle.formula.proofs.literal.Literal.is_met.Goals as goal

pub returns : goal.returns
unfolding met
returns c = rw (c.test.ensures, c.bit.ensures.0, c.is_positive.ensures) refl

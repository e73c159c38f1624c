-- `take_number` is `take_number`: each way out is a law of WordLaws.antt.
use Rattle.words.specs.Refusals.{number_of}
use Rattle.formula.proofs.WordLaws.{number_other, number_above, number_read}
use Rattle.formula.proofs.take_number.Goals as goal

pub returns-in_default-clause-number : goal.returns-in_default-clause-number
unfolding number_of
returns-in_default-clause-number c = rw c.at.ensures (number_other _ _ _ _ c.in_default.ensures)

pub returns-then-limit-v-clause-number : goal.returns-then-limit-v-clause-number
unfolding number_of
returns-then-limit-v-clause-number c = rw c.at-then-limit-v.ensures (number_above _ _ _ _ _ c.in-Some.ensures c.if-limit-v.true)

pub returns-clause-number : goal.returns-clause-number
returns-clause-number c = number_read _ _ _ _ _ c.in-Some.ensures c.if-limit-v.false

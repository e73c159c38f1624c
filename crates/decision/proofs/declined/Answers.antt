-- `declined` meets its contract: the words of 0 are 0.
use Rattle.words.specs.Bits.{word_at}
use Rattle.decision.specs.Answers.{ending_number}
use Rattle.decision.proofs.declined.Goals as goal

pub returns : goal.returns
unfolding word_at ending_number
returns c = rw c.number.ensures

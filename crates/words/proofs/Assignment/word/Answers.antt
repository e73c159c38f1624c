-- `Assignment::word` meets its contract: a shift is a quotient.
use Rattle.std.specs.Prelude.{refl}
use Rattle.words.specs.Bits.{word_at}
use Rattle.words.proofs.Assignment.word.Goals as goal

pub returns : goal.returns
unfolding word_at
returns c = refl

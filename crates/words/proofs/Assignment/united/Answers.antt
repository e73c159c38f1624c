-- `Assignment::united` meets its contract: `|` works bit by bit.
use Rattle.words.proofs.BitLaws.{bit-bit_or}
use Rattle.words.proofs.Assignment.united.Goals as goal

pub returns : goal.returns
returns c v h = bit-bit_or _ _ v

-- `Assignment::first_difference` meets its contract: the lowest bit of a xor b that is set.
use Rattle.std.proofs.Common.{arith}
use Rattle.words.specs.Bits.{width}
use Rattle.words.proofs.WordLaws.{first_difference}
use Rattle.words.proofs.Assignment.first_difference.Goals as goal

pub returns : goal.returns
returns c = first_difference width c.args.self.bits c.args.other.bits (omega arith) (omega arith)

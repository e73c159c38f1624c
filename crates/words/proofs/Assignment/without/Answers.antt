-- `Assignment::without` meets its contract: `&` and `!` work bit by bit.
use Rattle.std.proofs.Common.{arith}
use Rattle.words.specs.Bits.{width}
use Rattle.words.proofs.BitLaws.{bit_without}
use Rattle.words.proofs.Assignment.without.Goals as goal

pub returns : goal.returns
returns c v h = bit_without width c.args.self.bits c.args.other.bits v (omega arith) h

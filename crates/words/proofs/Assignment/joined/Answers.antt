-- `Assignment::joined` meets its contract: the shifted word has no bit below the shift, and loses none.
use Rattle.std.specs.Prelude.{◌≡◌, ◌*◌, ◌%◌, ◌^◌}
use Rattle.std.proofs.Common.{arith, mod-eq_of_lt}
use Rattle.std.specs.Int.Bits.{or_shifted_r}
use Rattle.words.specs.Bits.{width}
use Rattle.words.proofs.Assignment.joined.Goals as goal

pub returns : goal.returns
returns c =
    let a = c.args in
    let fits : a.word * 2 ^ a.shift % 2 ^ width ≡ a.word * 2 ^ a.shift = mod-eq_of_lt (omega arith) in
    rw (c.from.ensures, fits) (or_shifted_r a.word a.shift a.self.bits c.requires.1)

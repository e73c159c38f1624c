-- `set` meets its contract: the rows of the literal and of its opposite move the number of met literals, and no row the other.
use Rattle.horn.proofs.MachineLaws.{sets}
use Rattle.horn.proofs.set.Goals as goal

pub returns : goal.returns
returns c =
    let moved = rw (c.of.ensures.0, c.of.ensures.1) at c.shift.ensures.shifted in
    sets _ _ _ _ _ c.args.literal.known c.shift.ensures.to_len moved c.shift.ensures.shifted_2

-- `flip` meets its contract: one more literal met where the literal stands, one less where its opposite stands, and one less open
-- where the literal stands.
use Rattle.ball.proofs.CountLaws.{flips}
use Rattle.ball.proofs.counts.flip.Goals as goal

pub returns : goal.returns
returns c =
    let moved = rw (c.of-met.ensures.0, c.of-met.ensures.1) at c.shift.ensures.shifted in
    let moved_2 = rw c.of.ensures at c.shift.ensures.shifted_2 in
    flips _ _ _ _ _ c.args.literal.known c.shift.ensures.to_len moved moved_2

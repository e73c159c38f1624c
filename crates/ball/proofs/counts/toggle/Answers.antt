-- `toggle` meets its contract: at a centre what is open is what is not met, so that the second count moves against the first.
use Rattle.ball.proofs.CountLaws.{toggles}
use Rattle.ball.proofs.counts.toggle.Goals as goal

pub returns : goal.returns
returns c =
    let moved = rw (c.of-met.ensures.0, c.of-met.ensures.1) at c.shift.ensures.shifted in
    let moved_2 = rw (c.of.ensures, c.opposite.ensures, c.of-2.ensures) at c.shift.ensures.shifted_2 in
    toggles _ _ _ _ _ c.args.literal.known c.shift.ensures.to_len moved moved_2

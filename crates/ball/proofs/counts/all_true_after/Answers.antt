-- `all_true_after` meets its contract: a clause is true where its count is above 0.
use Rattle.ball.proofs.CountLaws.{settles}
use Rattle.ball.proofs.counts.all_true_after.Goals as goal

pub returns : goal.returns
returns c =
    let above = rw (c.of.ensures.0, c.of.ensures.1) at c.above_zero_after.ensures in
    settles _ _ _ c.args.literal.known _ _ above

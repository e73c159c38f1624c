-- `start` meets its contract: under the assignment 0 the negative literals are met, and the positive ones open.
use Rattle.ball.proofs.CountLaws.{begins}
use Rattle.ball.proofs.counts.start.Goals as goal

pub returns : goal.returns
returns c = begins _ _ _ _ c.start.ensures.result_len c.start.ensures.starts c.start.ensures.starts_2

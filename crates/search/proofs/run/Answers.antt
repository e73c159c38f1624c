-- `run` meets its contract: the codes are made, and the answer is that of the plan's blocks.
use Rattle.search.proofs.run.Goals as goal

pub returns : goal.returns
returns c = rw (c.lay_out.ensures.laid, c.empty-codes.ensures.named.1) at c.run_laid.ensures

-- `decide_sheet` meets its contract: the codes are laid out for the plan that is asked for.
use Rattle.decision.proofs.decide_sheet.Goals as goal

pub returns : goal.returns
returns c = c.decide_laid.ensures c.args.plan.size c.args.plan.radius (rw c.empty-codes.ensures.named.1 at c.lay_out.ensures.planned)

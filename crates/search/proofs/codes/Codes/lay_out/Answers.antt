-- `lay_out` meets its contract: the blocks are the plan's.
use Rattle.std.proofs.Common.{refl}
use Rattle.search.specs.Machine.{plan_in}
use Rattle.search.proofs.CodesLaws.{plan_variables, plan_reach, plan_laid, plan_blocks, plan_held}
use Rattle.search.proofs.codes.Codes.lay_out.Goals as goal

pub invariant_of-self : goal.invariant_of-self
invariant_of-self c =
    let a = c.args in
    let p = plan_in a.self.now.plan in
    record {
      laid = plan_laid p a.n _ _ _ refl c.of_whole.ensures c.of_last.ensures c.requires;
      variables = plan_variables p a.n _ _ _ refl c.of_whole.ensures c.of_last.ensures;
      reach = plan_reach p a.n _ _ _ refl c.of_whole.ensures c.of_last.ensures a.self.now.plan.within c.requires;
    }

pub returns-clause-laid : goal.returns-clause-laid
returns-clause-laid c = plan_blocks (plan_in c.args.self.now.plan) c.args.n _ _ _ refl c.of_whole.ensures c.of_last.ensures

pub returns-clause-held : goal.returns-clause-held
returns-clause-held c = plan_held (plan_in c.args.self.now.plan) c.args.n _ _ _ refl c.of_whole.ensures c.of_last.ensures

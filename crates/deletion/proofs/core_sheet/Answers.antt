-- `core_sheet` meets its contract: a none of the whole sheet is gone into, and anything else is the answer.
use mathlib.Core.Path.{◌≡◌, sym, ap, subst, ◌∙◌}
use Prim.Native.Nat.{ℕ}
use lib.ListN.{length}
use mathlib.Core.List.{[]}
use Rattle.formula.specs.Reading.{formula_of}
use Rattle.formula.proofs.TableLaws.{length_held}
use Rattle.search.specs.Run.{Plan}
use Rattle.decision.specs.Answers.{judged}
use Rattle.search.specs.Machine.{plan_in}
use Rattle.decision.specs.Machine.{verdict_in, decision_in}
use Rattle.deletion.specs.Core.{sift}
use Rattle.deletion.specs.Machine.{Leaves}
use Rattle.deletion.proofs.MachineLaws.{method_whole, none_leaves, other_leaves, other_said}
use Rattle.deletion.proofs.core_sheet.Goals as goal
use Rattle.deletion.proofs.core_sheet.Goals.{After-decide_laid-all}

-- what the whole sheet comes to, by the plan that is asked for
module _ (c : After-decide_laid-all) where
  whole : let a = c.args in decision_in c.decide_laid-all.result ≡ judged (plan_in a.plan) a.budget (formula_of a.sheet.now)
  whole = c.decide_laid-all.ensures c.args.plan.size c.args.plan.radius (rw c.empty-codes.ensures.named.1 at c.lay_out.ensures.planned)

pub core_of-requires : goal.core_of-requires
unfolding decision_in
core_of-requires c =
    let t = (goal.at.core_of-requires c).After-decide_laid-all in
    record {
      coded = c.lay_out.ensures.coded;
      planned = rw c.lay_out.ensures.named c.lay_out.ensures.planned;
      method_value = (method_whole (plan_in c.args.plan) c.args.budget _ c.args.list.now _ (whole t), c.requires);
    }

pub returns-in_default : goal.returns-in_default
unfolding decision_in
returns-in_default c =
    let t = (goal.at.returns-in_default c).After-decide_laid-all in
    other_leaves _ _ _ _ _ (whole t) (other_said _ c.in_default.not-None)

pub returns : goal.returns
unfolding decision_in verdict_in
returns c =
    let t = (goal.at.returns c).After-decide_laid-all in
    let a = c.args in
    let f = formula_of a.sheet.now in
    let count : length f.clauses ≡ a.sheet.now.count = length_held a.sheet.now.count a.sheet.now.cells in
    none_leaves _ _ _ _ _ (whole t) _ (ap verdict_in c.in-None.is) _ _
    (subst (λ (k : ℕ). Leaves (sift (plan_in a.plan) a.budget f k []) a.list.now (decision_in c.core_of.result) c.core_of.new.list) (sym count)
    (subst (λ (p : Plan). Leaves (sift p a.budget f a.sheet.now.count []) a.list.now (decision_in c.core_of.result) c.core_of.new.list)
    (ap plan_in (c.lay_out.ensures.named ∙ c.empty-codes.ensures.named.1)) c.core_of.ensures))

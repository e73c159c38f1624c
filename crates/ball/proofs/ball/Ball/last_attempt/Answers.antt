-- `last_attempt` meets its contract, by its three answers.
use mathlib.Core.Path.{sym, ap, ◌∙◌}
use native.Mathlib.Omega.{arith}
use borrow.Author.Tests.{leb-true, leb-false}
use Rattle.ball.specs.Ball.{State}
use Rattle.ball.specs.Machine.{state_in}
use Rattle.ball.proofs.MachineLaws.{last_spent, last_clear, last_none}
use Rattle.ball.proofs.ball.Ball.last_attempt.Goals as goal

pub returns-then-exhausted : goal.returns-then-exhausted
returns-then-exhausted c = last_spent _ _ _ _ _ _ _ _ (leb-true _ _ (sym c.exhausted.ensures ∙ c.if-exhausted.true))

pub overflow_add-result : goal.overflow_add-result
overflow_add-result c = omega (arith, leb-false _ _ (sym c.exhausted.ensures ∙ c.if-exhausted.false))

pub returns-then-all_true_after : goal.returns-then-all_true_after
unfolding state_in
returns-then-all_true_after c =
    let model = ap (λ (q : State). q.assignment) c.flip.ensures.result_value in
    let enough = leb-false _ _ (sym c.exhausted.ensures ∙ c.if-exhausted.false) in
    last_clear _ _ _ _ _ _ _ _ _ c.all_true_after.ensures enough c.if-all_true_after.true _ model

pub overflow_add-result-2 : goal.overflow_add-result-2
overflow_add-result-2 c = omega (arith, leb-false _ _ (sym c.exhausted.ensures ∙ c.if-exhausted.false))

pub returns : goal.returns
returns c =
    let enough = leb-false _ _ (sym c.exhausted.ensures ∙ c.if-exhausted.false) in
    last_none _ _ _ _ _ _ _ _ _ c.all_true_after.ensures enough c.if-all_true_after.false

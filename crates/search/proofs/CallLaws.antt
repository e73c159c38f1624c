-- The balls of a run as a machine takes them, one after the other, within the budget A.
use Rattle.std.specs.Prelude.{◌≡◌, ℕ, ◌≤◌}
use Rattle.std.proofs.Common.{sym, ap, ◌∙◌, arith}
use Rattle.std.proofs.Math.Nat.{sub-zero}
use Rattle.tree.specs.Explore.{calls}
use Rattle.tree.specs.Budget.{answer}
use Rattle.tree.proofs.TreeLaws.{explore_some}
use Rattle.tree.proofs.BudgetLaws.{rest, settle_start}
use Rattle.ball.specs.Ball.{ball_tree, ball_search}
use Rattle.tree.specs.Legs.{Progress}
use Rattle.tree.specs.Legs.{cut}
use Rattle.tree.proofs.LegLaws.{leg_from_lem, leg_answer}
use Rattle.search.specs.Run.{Search, centre_count, ball, run, leg_of}

-- A ball takes at least one call.
pub ball_some : (q : Search) (i : ℕ) → 1 ≤ calls (ball q i)
unfolding ball ball_search
ball_some q i = explore_some (ball_tree q.clauses q.rule) _ _

-- The run is the balls from the first on.
pub run_rest : (q : Search) → run q ≡ rest (ball q) (centre_count q.blocks) 0
unfolding run rest
run_rest q = rw sub-zero

-- Its answer is that of the leg from the first ball on, where spent counts the whole budget.
pub answer_balls : (A : ℕ) (q : Search) → answer A (run q) ≡ cut A (leg_of q A 0).answer
unfolding leg_of
answer_balls A q =
    rw (run_rest q) (sym (settle_start A _))
    ∙ leg_answer (ball q) A (centre_count q.blocks) 0 0 (omega arith) (omega arith)
    ∙ ap (λ (p : Progress). cut A p.answer) (sym (leg_from_lem (ball q) A (centre_count q.blocks) 0))

-- The search as a machine takes it, one law for each of its branches: it counts calls from c on and stops at the budget A.
use Rattle.std.specs.Prelude.{◌≡◌, refl, Bool, true, false, cond, List, [], ◌∷◌, ℕ, ◌+◌, ◌-◌, ◌≤◌, ◌<◌}
use Rattle.std.proofs.Common.{sym, ap, ◌∙◌}
use Rattle.words.specs.Lists.{every, keep}
use Rattle.formula.specs.Formula.{Literal, Clause}
use Rattle.tree.specs.Explore.{Outcome, none, after, try}
use Rattle.tree.specs.Budget.{Answer, clear, spent}
use Rattle.tree.proofs.TreeLaws.{plus_zero}
use Rattle.tree.specs.Budget.{settle}
use Rattle.tree.proofs.BudgetLaws.{call_spent, call_clear, call_none, call_moves}
use Rattle.ball.specs.Ball.{State, is_true, flip, Rule, ball_tree, ball_search}

-- ---- a call

module _ (A c : ℕ) (cs : List Clause) (rule : Rule) (r : ℕ) (s : State) where
  -- With no call left it is spent;
  pub search_spent : A ≤ c → settle A c (ball_search cs rule r s) ≡ spent A
  unfolding ball_search
  search_spent = call_spent A c (ball_tree cs rule) s r

  -- with all clauses true it is clear;
  pub search_clear : c < A → every (is_true s) cs ≡ true → settle A c (ball_search cs rule r s) ≡ clear s.assignment (c + 1)
  unfolding ball_search ball_tree
  search_clear = call_clear A c (ball_tree cs rule) s r

  -- with no flip left it is none;
  pub search_none : c < A → every (is_true s) cs ≡ false → r ≡ 0 → settle A c (ball_search cs rule r s) ≡ Answer.none (c + 1)
  unfolding ball_search ball_tree
  search_none l g z = call_none A c (ball_tree cs rule) s r z l g

  -- and otherwise it is what the rule's literals give, from one call more on.
  pub search_literals : every (is_true s) cs ≡ false → 0 < r →
      settle A c (ball_search cs rule r s) ≡ settle A (c + 1) (try (λ l. ball_search cs rule (r - 1) (flip s l)) (rule s))
  unfolding ball_search ball_tree
  search_literals g l = call_moves A c (ball_tree cs rule) s r l g

-- ---- the literals that are tried

-- To try those that are tried is to try each, where one that is not tried makes no call.
pub try_tried : (s : Literal → Outcome) (p : Literal → Bool) (ls : List Literal) →
    try s (keep p ls) ≡ try (λ l. cond (p l) (s l) (none 0)) ls
unfolding try keep after
try_tried s p [] = refl
try_tried s p (l ∷ ls) = go (p l) (try_tried s p ls)
  where
    go : (b : Bool) → try s (keep p ls) ≡ try (λ l'. cond (p l') (s l') (none 0)) ls →
        try s (cond b (l ∷ keep p ls) (keep p ls)) ≡ after (cond b (s l) (none 0)) (try (λ l'. cond (p l') (s l') (none 0)) ls)
    go true below = ap (after (s l)) below
    go false below = below ∙ sym (plus_zero _)

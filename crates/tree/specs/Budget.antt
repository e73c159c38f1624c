-- The answer of a search within a budget of calls (paper 01, "The search in one ball").
use Rattle.std.specs.Prelude.{cond, ℕ, leb}
use Rattle.tree.specs.Explore.{Outcome, found, calls, plus}

-- The answer (its verdict, refusals apart): an assignment and the calls; the calls; or the budget that is spent.
pub data Answer : Type 0 where
  clear : ℕ → ℕ → Answer
  none : ℕ → Answer
  spent : ℕ → Answer

-- the answer of a search carried to its end
unfoldable pub whole : Outcome → Answer
whole (found m c) = clear m c
whole (Outcome.none c) = Answer.none c

-- The answer within the budget A: spent where the calls needed are more.
unfoldable pub answer : ℕ → Outcome → Answer
answer A o = cond (leb (calls o) A) (whole o) (spent A)

-- the answer where c calls were counted before
unfoldable pub settle : ℕ → ℕ → Outcome → Answer
settle A c o = answer A (plus c o)

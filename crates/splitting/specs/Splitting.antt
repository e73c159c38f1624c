-- Plain splitting (02, paper 10; source 003's simple backtracking).
use Rattle.std.specs.Prelude.{Bool, true, false, cond, not, ◌&&◌, List, [], ◌∷◌, ℕ, zero, suc, ◌+◌, ◌*◌, leb}
use Rattle.words.specs.Lists.{some, every}
use Rattle.words.specs.Bits.{bit, toggle}
use Rattle.formula.specs.Formula.{Literal, Clause, met, some_met}
use Rattle.tree.specs.Explore.{Outcome, Tree, explore}

-- Where a call stands: how many variables are set, from the first on, and the assignment, in which the others are 0.
pub record Node : Type 0 where
  pub set : ℕ
  pub assignment : ℕ

-- no variable is set
abbrev pub start : Node
start = record { set = 0; assignment = 0 }

-- the variable of a literal is one of the first j
unfoldable pub is_set : ℕ → Literal → Bool
is_set j l = leb l.variable j

-- the clause has only set variables and is false
unfoldable pub is_lost : Node → Clause → Bool
is_lost x c = every (is_set x.set) c && not (some_met x.assignment c)

-- the clause has a met literal among the set variables
unfoldable pub is_sure : Node → Clause → Bool
is_sure x c = some (λ l. is_set x.set l && met x.assignment l) c

-- the next variable set, as 1 or as 0: with j set, variable j + 1 has the bit j, which is 0 until then (`next_here`, SplittingLaws.antt)
unfoldable pub set_next : Node → Bool → Node
set_next x b = record { set = suc x.set; assignment = cond b (toggle x.assignment x.set) x.assignment }

-- A call (no clause is both lost and sure: `never_both`):
-- - some clause is lost: no: there are no `moves`;
-- - every clause is sure: found, with this assignment: `goal`, `out`;
-- - else it tries the next variable as 0 (the paper's hold) and then as 1 (pay): `moves`, `move`.
unfoldable pub split_tree : List Clause → Tree Node Bool
split_tree cs =
    record {
      goal = λ x. every (is_sure x) cs;
      out = λ x. x.assignment;
      moves = λ x. cond (some (is_lost x) cs) [] (false ∷ true ∷ []);
      move = set_next;
    }

-- The calls from the start on. Each sets one of n variables: `split_room` (SplittingLaws.antt) says that more depth changes nothing.
unfoldable pub split : ℕ → List Clause → Outcome
split n cs = explore (split_tree cs) n start

-- The order of the assignments of n variables, where variable 1 weighs most and 0 precedes 1: the variables as binary digits, the
-- first one highest. The smaller number comes first.
unfoldable pub weight : ℕ → ℕ → ℕ
weight zero m = 0
weight (suc v) m = 2 * weight v m + cond (bit m v) 1 0

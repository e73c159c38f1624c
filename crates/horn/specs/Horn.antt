-- Horn formulas and their rounds (02, paper 9; source 003).
use Rattle.std.specs.Prelude.{Bool, not, List, [], ℕ, leb, length}
use Rattle.words.specs.Lists.{every, keep, first}
use Rattle.words.specs.Bits.{toggle}
use Rattle.formula.specs.Formula.{Literal, Clause, bit_of, some_met, all_true}
use Rattle.tree.specs.Explore.{Outcome, Tree, explore}

-- the positive literals of a clause
unfoldable pub positives : Clause → List Literal
positives c = keep (λ l. l.positive) c

-- Clauses are Horn if each has at most one positive literal.
unfoldable pub is_horn : List Clause → Bool
is_horn cs = every (λ c. leb (length (positives c)) 1) cs

-- the first clause that is false under an assignment; where there is none, the empty one
unfoldable pub first_false : List Clause → ℕ → Clause
first_false cs m = first (λ c. not (some_met m c)) cs []

-- A round at an assignment (the paper's marks so far):
-- - no clause is false: found, with this assignment: `goal`, `out`;
-- - else the first false clause has no positive literal: none: there are no `moves`;
-- - else its positive variable, which is 0, is set, and the next round follows: `move`.
unfoldable pub horn_tree : List Clause → Tree ℕ Literal
horn_tree cs =
    record {
      goal = λ m. all_true m cs;
      out = λ m. m;
      moves = λ m. positives (first_false cs m);
      move = λ m l. toggle m (bit_of l);
    }

-- The rounds from the assignment 0. Each sets one of n variables, so that n rounds can follow the first: `rounds_room`
-- (HornLaws.antt) says that more depth changes nothing.
unfoldable pub rounds : ℕ → List Clause → Outcome
rounds n cs = explore (horn_tree cs) n 0

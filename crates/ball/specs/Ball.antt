-- The search in one ball (paper 01, "The search in one ball"; source 000, section 2.2). Assignments are numbers of any width.
use Rattle.std.specs.Prelude.{Bool, cond, not, ◌&&◌, ◌||◌, List, [], ℕ, eqb, leb, ltb, length}
use Rattle.words.specs.Lists.{some, every, keep, count, first}
use Rattle.words.specs.Bits.{bit, toggle}
use Rattle.formula.specs.Formula.{Literal, Clause, bit_of, met, is_opposite}
use Rattle.tree.specs.Explore.{Outcome, Tree, explore}

-- Where a call stands: the assignment, and the set of variables flipped on this path.
pub record State : Type 0 where
  pub assignment : ℕ
  pub flipped : ℕ

-- the variable of the literal is flipped on this path
unfoldable pub is_flipped : State → Literal → Bool
is_flipped s l = bit s.flipped (bit_of l)

-- ---- the reading of a clause

-- a literal is open: it is not met, and its variable is not flipped yet
unfoldable pub is_open : State → Literal → Bool
is_open s l = not (met s.assignment l) && not (is_flipped s l)

-- What a clause reads as in a call (the paper's standing of a term): how many of its literals are met, and how many are open.
pub record Reading : Type 0 where
  pub met : ℕ
  pub «open» : ℕ

unfoldable pub reading : State → Clause → Reading
reading s c = record { met = count (met s.assignment) c; «open» = count (is_open s) c }

-- Yes or no is taken from the reading: a clause is true if some literal is met.
unfoldable pub true? : Reading → Bool
true? r = ltb 0 r.met

unfoldable pub is_true : State → Clause → Bool
is_true s c = true? (reading s c)

-- A clause is dead: it is false, and each of its variables is flipped on this path.
unfoldable pub is_dead : State → Clause → Bool
is_dead s c = not (is_true s c) && every (is_flipped s) c

-- ---- short clauses and lone opposites

-- the clause restricted to the variables that are not flipped
unfoldable pub restricted : State → Clause → Clause
restricted s c = keep (λ l. not (is_flipped s l)) c

-- Rule S: a false clause with at most two variables that are not flipped.
unfoldable pub meets_s : State → Clause → Bool
meets_s s c = not (is_true s c) && leb (length (restricted s c)) 2

-- some flipped literal of the clause is met
unfoldable pub flipped_met : State → Clause → Bool
flipped_met s c = some (λ x. is_flipped s x && met s.assignment x) c

-- the opposite of l is the only literal of the clause that is not flipped, and no flipped literal of it is met
unfoldable pub is_lone : State → Literal → Clause → Bool
is_lone s l c = (eqb (length (restricted s c)) 1 && some (is_opposite l) (restricted s c)) && not (flipped_met s c)

-- A literal has a lone opposite: in some clause its opposite is so.
unfoldable pub has_lone_opposite : List Clause → State → Literal → Bool
has_lone_opposite cs s l = some (is_lone s l) cs

-- Rule L: a false clause with a literal that is not flipped and has a lone opposite.
unfoldable pub meets_l : List Clause → State → Clause → Bool
meets_l cs s c = not (is_true s c) && some (has_lone_opposite cs s) (restricted s c)

-- ---- a flip

-- the literal's variable flipped
unfoldable pub flip : State → Literal → State
flip s l = record { assignment = toggle s.assignment (bit_of l); flipped = toggle s.flipped (bit_of l) }

-- ---- the branching rule

-- A branching rule: the literals that a call tries, in order, where some clause is false.
abbrev pub Rule : Type 0
Rule = State → List Literal

-- a literal is tried: it is not skipped, and its variable is not flipped
unfoldable pub is_tried : (State → Literal → Bool) → State → Literal → Bool
is_tried skip s l = not (skip s l) && not (is_flipped s l)

-- of some literals those that are tried, in order
unfoldable pub tried : (State → Literal → Bool) → State → List Literal → List Literal
tried skip s ls = keep (is_tried skip s) ls

-- the rule that selects a clause and skips some of its literals
unfoldable pub branch : (State → Clause) → (State → Literal → Bool) → Rule
branch select skip s = tried skip s (select s)

-- the engine selects the first clause that meets S or L, or else the first that is false;
unfoldable pub select : List Clause → State → Clause
select cs s = first (λ c. meets_s s c || meets_l cs s c) cs (first (λ c. not (is_true s c)) cs [])

-- and skips its literals that have a lone opposite
unfoldable pub skip : List Clause → State → Literal → Bool
skip cs s l = has_lone_opposite cs s l

-- The engine's rule: no literal where some clause is dead.
unfoldable pub rule : List Clause → Rule
rule cs s = cond (some (is_dead s) cs) [] (branch (select cs) (skip cs) s)

-- ---- the tree of a ball

-- The four steps of a call in paper 01, the third as paper 4 of 02 amends it, and the choice in the fourth as papers 6 and 7 do:
-- 1. all clauses true: found, with this assignment: `goal`, `out`;
-- 2. else, no flip left: no: `explore` at depth 0 makes no move;
-- 3. else, some clause dead: no: `rule` gives no literal;
-- 4. else a clause is taken, `select`, and each of its literals in order that is not flipped and not skipped, `is_tried`: flip it and
--    call with one flip less: `moves`, `move`, `try`.
unfoldable pub ball_tree : List Clause → Rule → Tree State Literal
ball_tree cs rule = record { goal = λ s. every (is_true s) cs; out = λ s. s.assignment; moves = rule; move = flip }

-- The call at a state with r flips left.
unfoldable pub ball_search : List Clause → Rule → ℕ → State → Outcome
ball_search cs rule r s = explore (ball_tree cs rule) r s

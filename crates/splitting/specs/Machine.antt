-- What splitting as a machine makes it is given and leaves, read as the definitions: sets of clauses, a lane each.
use Rattle.std.specs.Prelude.{◌≡◌, Bool, not, ◌&&◌, List, ℕ, ◌+◌, ◌-◌, ◌*◌, ◌/◌, ◌%◌, ◌^◌, ◌≤◌, ◌<◌, ltb, get_or}
use Rattle.words.specs.Lists.{some, every}
use Rattle.words.specs.Bits.{bit, width}
use Rattle.words.specs.Machine.{bits_of}
use Rattle.words.specs.declared.Assignment.{Assignment}
use Rattle.formula.specs.Formula.{Clause}
use Rattle.formula.specs.Machine.{Table, clause_at, held}
use Rattle.tree.specs.Explore.{Outcome, explore}
use Rattle.planes.specs.Machine.{lanes, row_words, words_of, lane, Occurs}
use Rattle.splitting.specs.Splitting.{Node, is_set, is_sure, split_tree}

-- where a call stands, as the machine has it
abbrev pub node : ℕ → ℕ → Node
node j m = record { set = j; assignment = m }

abbrev pub node_in : ℕ → Assignment → Node
node_in j a = node j (bits_of a)

-- clause i is in a set
unfoldable pub is_in : List ℕ → ℕ → Bool
is_in set i = bit (get_or set (i / lanes) 0) (i % lanes)

-- The set of all k clauses.
pub record All (k : ℕ) (set : List ℕ) : Type 0 where
  pub each : (i : ℕ) → i < lanes * words_of k → is_in set i ≡ ltb i k

-- The clauses of a set that do not hold the literal.
pub record Without (k literal : ℕ) (occ from to : List ℕ) : Type 0 where
  pub each : (i : ℕ) → i < lanes * words_of k → is_in to i ≡ (is_in from i && not (lane occ literal i))

-- The set of the clauses that have no met literal among the set variables.
pub record Unmet (k : ℕ) (cells : List ℕ) (x : Node) (set : List ℕ) : Type 0 where
  pub each : (i : ℕ) → i < lanes * words_of k → is_in set i ≡ (ltb i k && not (is_sure x (clause_at cells i)))

-- a row for each number j of set variables, up to as many as an assignment has
abbrev pub open_cells : ℕ
open_cells = (width + 1) * row_words

-- some variable of the clause is beyond the first j
abbrev pub is_open : ℕ → Clause → Bool
is_open j c = not (every (is_set j) c)

-- Row j has the clauses with a variable beyond the first j.
pub record Opens (n k : ℕ) (cells rows : List ℕ) : Type 0 where
  pub each : (j i : ℕ) → j ≤ n → i < k → lane rows j i ≡ is_open j (clause_at cells i)

-- some clause has only variables of the first j, and no met literal among the set ones
abbrev pub some_closed : ℕ → List ℕ → ℕ → Node → Bool
some_closed k cells j x = some (λ c. every (is_set j) c && not (is_sure x c)) (held k cells)

-- What a call is given: the tables of k clauses over n variables, and the set of the clauses that are left.
pub record Standing (n k : ℕ) (cells occ rows : List ℕ) (x : Node) (set : List ℕ) : Type 0 where
  pub table : Table n k cells
  pub occurs : Occurs k cells occ
  pub opens : Opens n k cells rows
  pub within : x.set ≤ n
  pub small : x.assignment < 2 ^ x.set
  pub unmet : Unmet k cells x set

-- what a call gives, with n − j variables left
abbrev pub call_from : ℕ → ℕ → List ℕ → Node → Outcome
call_from n k cells x = explore (split_tree (held k cells)) (n - x.set) x

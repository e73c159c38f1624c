-- Searching a tree: outcomes, their count of calls, and the bound on it. No budget stands in it.
use Rattle.std.specs.Prelude.{Bool, true, false, List, [], ◌∷◌, ℕ, zero, suc, ◌+◌, ◌^◌}

-- ---- outcomes, and their calls

-- What a search gives: an assignment and the calls made, or no assignment and the calls made.
pub data Outcome : Type 0 where
  found : ℕ → ℕ → Outcome
  none : ℕ → Outcome

-- the calls made
unfoldable pub calls : Outcome → ℕ
calls (found m c) = c
calls (none c) = c

-- the outcome with c more calls
unfoldable pub plus : ℕ → Outcome → Outcome
plus c (found m d) = found m (c + d)
plus c (none d) = none (c + d)

-- the first outcome, and where it found nothing the second after it
unfoldable pub after : Outcome → Outcome → Outcome
after (found m c) o = found m c
after (none c) o = plus c o

-- Each element in turn, up to the first found; the calls add up.
unfoldable pub try : {A : Type 0} → (A → Outcome) → List A → Outcome
try s [] = none 0
try s (x ∷ xs) = after (s x) (try s xs)

-- One call: at its goal it finds m, and otherwise it gives what is below it.
unfoldable pub call : Bool → ℕ → Outcome → Outcome
call true m below = found m 1
call false m below = plus 1 below

-- ---- searching a tree

-- A tree: which nodes are goals, the number that a goal stands for, and the moves from a node.
pub record Tree (X L : Type 0) : Type 0 where
  pub goal : X → Bool
  pub out : X → ℕ
  pub moves : X → List L
  pub move : X → L → X

-- The tree below x to the depth r, in the order of the moves, up to the first goal.
unfoldable pub explore : {X L : Type 0} → Tree X L → ℕ → X → Outcome
explore t zero x = call (t.goal x) (t.out x) (none 0)
explore t (suc r) x = call (t.goal x) (t.out x) (try (λ l. explore t r (t.move x l)) (t.moves x))

-- ---- the most calls of a tree with at most k moves from each node

-- 1 + k + … + k^r
unfoldable pub powers : ℕ → ℕ → ℕ
powers k zero = k ^ 0
powers k (suc r) = powers k r + k ^ suc r

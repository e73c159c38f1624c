-- What the search in one ball is given and what it answers, read as the definitions.
use Rattle.std.specs.Prelude.{◌≡◌, ◌⊎◌, Bool, true, false, cond, not, ◌&&◌, List, ℕ, ◌+◌, ◌-◌, ◌≤◌, ◌<◌, length, drop}
use Rattle.words.specs.Lists.{every, count}
use Rattle.words.specs.Bits.{bit, toggle, width}
use Rattle.words.proofs.BitLaws.{digit}
use Rattle.words.specs.Machine.{bits_of, set_of}
use Rattle.formula.specs.Formula.{Literal, bit_of, met, names, literal_of}
use Rattle.formula.specs.Machine.{Table, IsLiteral, held, clause_at, length_at}
use Rattle.tree.specs.declared.Found.{Found}
use Rattle.tree.specs.Explore.{Outcome, none, try}
use Rattle.tree.specs.Budget.{settle}
use Rattle.tree.specs.Machine.{answer_in}
use Rattle.planes.specs.declared.Kind.TheVariants.{Lone}
use Rattle.planes.specs.Machine.{first_counter, second_counter, plane_cells, First, wanted, Occurs, Counts}
use Rattle.ball.specs.declared.path.Path.{Path}
use Rattle.ball.specs.declared.reading.Reading.{Reading as ClauseReading}
use Rattle.ball.specs.Ball.{State, Reading, reading, is_true, is_dead, is_flipped, is_open, has_lone_opposite, meets_l, flip, is_tried, select, skip, rule, ball_search}

unfoldable pub state_in : Path → State
state_in p = record { assignment = bits_of p.assignment; flipped = set_of p.flipped }

-- the state at a centre: no variable is flipped
abbrev pub centred : ℕ → State
centred m = record { assignment = m; flipped = 0 }

-- What every call shares: the table of k clauses, and where its literals occur.
pub record Ready (k : ℕ) (cells occ : List ℕ) : Type 0 where
  pub table : Table width k cells
  pub occurs : Occurs k cells occ

-- ---- what is counted

-- The planes show a state: the two numbers of each clause's reading in it.
pub record Shows (k : ℕ) (cells : List ℕ) (s : State) (planes : List ℕ) : Type 0 where
  pub met : Counts k cells first_counter (λ c. (reading s c).met) planes
  pub «open» : Counts k cells second_counter (λ c. (reading s c).«open») planes

-- They show it for some table.
pub record Seen (k : ℕ) (occ planes : List ℕ) (s : State) : Type 0 where
  pub cells : List ℕ
  pub ready : Ready k cells occ
  pub shows : Shows k cells s planes

-- A literal that a call may try: it is not met, and its variable is not flipped.
pub record Tryable (s : State) (l : Literal) : Type 0 where
  pub unmet : met s.assignment l ≡ false
  pub fresh : is_flipped s l ≡ false

-- The planes at the start show the assignment 0.
pub record Begins (n k : ℕ) (occ planes : List ℕ) : Type 0 where
  pub size : length planes ≡ plane_cells
  pub shows : (cells : List ℕ) → Table n k cells → Occurs k cells occ → Shows k cells (centred 0) planes

-- In the set b are the variables of which the literal that is not met has a lone opposite, and no flipped ones.
pub record Forced (k : ℕ) (cells : List ℕ) (s : State) (b : ℕ) : Type 0 where
  pub each : (l : Literal) → 1 ≤ l.variable → l.variable ≤ width → met s.assignment l ≡ false → is_flipped s l ≡ false →
      bit b (bit_of l) ≡ has_lone_opposite (held k cells) s l
  pub clean : (v : ℕ) → v < width → bit b v ≡ true → bit s.flipped v ≡ false

-- Where a call with flips left stands: no clause is dead, and the set b has the variables that are forced.
pub record Standing (k : ℕ) (cells : List ℕ) (s : State) (b : ℕ) : Type 0 where
  pub alive : (i : ℕ) → i < k → is_dead s (clause_at cells i) ≡ false
  pub forced : Forced k cells s b

-- The set r has the variables of b and those of the clauses that pass the test.
pub record Gathered (k : ℕ) (cells : List ℕ) (test : ℕ → Bool) (b r : ℕ) : Type 0 where
  pub kept : (v : ℕ) → v < width → bit b v ≡ true → bit r v ≡ true
  pub named : (v i : ℕ) → v < width → i < k → test i ≡ true → names (v + 1) (clause_at cells i) ≡ true → bit r v ≡ true
  pub only : (v : ℕ) → v < width → bit r v ≡ true →
      (bit b v ≡ true) ⊎ ((i : ℕ) × (i < k) × (test i ≡ true) × (names (v + 1) (clause_at cells i) ≡ true))

-- clause i has one literal met and none open, and holds the literal with the word u, where there is one to hold
abbrev pub is_new : List ℕ → State → ℕ → ℕ → Bool
is_new cells s u i = wanted Lone u cells (λ c. (reading s c).met) (λ c. (reading s c).«open») i

-- The set q has the variables of b and those of such clauses, without the flipped ones: b is what was forced before, and u the
-- opposite of the literal just flipped, or 0 at a centre.
pub record Forces (k : ℕ) (cells : List ℕ) (s : State) (u b q : ℕ) : Type 0 where
  pub sum : ℕ
  pub gathered : Gathered k cells (is_new cells s u) b sum
  pub without : (v : ℕ) → v < width → bit q v ≡ (bit sum v && not (bit s.flipped v))

-- clause i meets L
abbrev pub is_spared : ℕ → List ℕ → State → ℕ → Bool
is_spared k cells s i = meets_l (held k cells) s (clause_at cells i)

-- r is the number of the first false clause.
abbrev pub FirstFalse : ℕ → List ℕ → State → ℕ → Type 0
FirstFalse k cells s r = First 0 k (λ i. not (is_true s (clause_at cells i))) r

-- r is the number of the clause that the rule selects.
pub record Selected (k : ℕ) (cells : List ℕ) (s : State) (r : ℕ) : Type 0 where
  pub inside : r < k
  pub same : select (held k cells) s ≡ clause_at cells r
  pub failing : is_true s (clause_at cells r) ≡ false

-- The flip of a literal in a call: the planes show the state after it,
pub record Flips (k literal : ℕ) (occ from to : List ℕ) : Type 0 where
  pub size : length to ≡ plane_cells
  pub shows : (cells : List ℕ) (s : State) → Ready k cells occ → Tryable s (literal_of literal) →
      Shows k cells s from → Shows k cells (flip s (literal_of literal)) to

-- and its toggle at a centre: they show the centre with its variable toggled.
pub record Toggles (k literal : ℕ) (occ from to : List ℕ) : Type 0 where
  pub size : length to ≡ plane_cells
  pub shows : (cells : List ℕ) (m : ℕ) → Ready k cells occ → met m (literal_of literal) ≡ false →
      Shows k cells (centred m) from → Shows k cells (centred (toggle m (bit_of (literal_of literal)))) to

-- Whether all clauses are true after the flip of a literal.
pub record Settles (k literal : ℕ) (occ planes : List ℕ) (r : Bool) : Type 0 where
  pub answer : (cells : List ℕ) (s : State) → Ready k cells occ → Shows k cells s planes → Tryable s (literal_of literal) →
      every (is_true (flip s (literal_of literal))) (held k cells) ≡ r

-- ---- the reading of one clause

-- the machine's reading as the definition's
unfoldable pub reading_in : ClauseReading → Reading
reading_in r = record { met = r.met; «open» = r.«open» }

-- The reading q counts one literal more than p.
pub record Counted (s : State) (l : Literal) (p q : Reading) : Type 0 where
  pub met : q.met ≡ p.met + digit (met s.assignment l)
  pub «open» : q.«open» ≡ p.«open» + digit (is_open s l)

-- The literals of clause i from number j on, added to the reading r, make the clause's.
pub record Counting (s : State) (cells : List ℕ) (i j : ℕ) (r : Reading) : Type 0 where
  pub within : j ≤ length_at cells i
  pub met : r.met + count (met s.assignment) (drop j (clause_at cells i)) ≡ (reading s (clause_at cells i)).met
  pub «open» : r.«open» + count (is_open s) (drop j (clause_at cells i)) ≡ (reading s (clause_at cells i)).«open»

-- ---- a call

-- one call at the state s over the clauses in the table, with `left` flips left
unfoldable pub call_from : ℕ → List ℕ → ℕ → State → Outcome
call_from k cells left s = ball_search (held k cells) (rule (held k cells)) left s

-- one literal, where the call at s has `left` flips left: a literal that is not tried makes no call
unfoldable pub attempt_from : ℕ → List ℕ → ℕ → State → Literal → Outcome
attempt_from k cells left s l = cond (is_tried (skip (held k cells)) s l) (call_from k cells (left - 1) (flip s l)) (none 0)

-- some literals in turn
unfoldable pub literals_from : ℕ → List ℕ → ℕ → State → List Literal → Outcome
literals_from k cells left s ls = try (attempt_from k cells left s) ls

-- What the literals of a clause from number j on are tried with: the clause is false, there is a flip for a call, and the calls
-- made so far are within the budget.
pub record Trying (k : ℕ) (cells occ planes : List ℕ) (s : State) (b clause j left calls budget : ℕ) : Type 0 where
  pub ready : Ready k cells occ
  pub shows : Shows k cells s planes
  pub standing : Standing k cells s b
  pub inside : clause < k
  pub failing : is_true s (clause_at cells clause) ≡ false
  pub flips : 0 < left
  pub enough : calls ≤ budget
  pub more : j ≤ length_at cells clause

-- Before literal j in the loop over the literals of a clause: those still to come, with `made` calls counted, give what all of them
-- give with `calls` counted.
pub record Turn (k : ℕ) (cells occ planes : List ℕ) (s : State) (b clause left calls budget made j : ℕ) : Type 0 where
  pub trying : Trying k cells occ planes s b clause j left made budget
  pub same : settle budget made (literals_from k cells left s (drop j (clause_at cells clause)))
      ≡ settle budget calls (literals_from k cells left s (clause_at cells clause))

-- What one literal is tried with: it may be tried, and has no lone opposite.
pub record Attempting (k : ℕ) (cells occ planes : List ℕ) (s : State) (b literal left calls budget : ℕ) : Type 0 where
  pub ready : Ready k cells occ
  pub shows : Shows k cells s planes
  pub standing : Standing k cells s b
  pub known : IsLiteral literal
  pub tryable : Tryable s (literal_of literal)
  pub kept : has_lone_opposite (held k cells) s (literal_of literal) ≡ false
  pub flips : 0 < left
  pub enough : calls ≤ budget

-- one literal where one flip is left, so that its call is the last on its path
pub record LastAttempt (k : ℕ) (occ planes : List ℕ) (s : State) (b literal budget made : ℕ) (r : Found) : Type 0 where
  pub answer : (cells : List ℕ) → Attempting k cells occ planes s b literal 1 made budget →
      answer_in r ≡ settle budget made (call_from k cells 0 (flip s (literal_of literal)))

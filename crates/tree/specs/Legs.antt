-- A search that is carried out in legs (02, paper 11): searches by their number, of which a leg takes those that it can finish.
use Rattle.std.specs.Prelude.{ℕ, zero, suc, ◌+◌, ◌-◌}
use Rattle.tree.specs.Explore.{Outcome, plus}
use Rattle.tree.specs.Budget.{Answer, clear, spent, answer}

-- What a leg comes to: its answer, and the number of the search that is next.
pub record Progress : Type 0 where
  pub answer : Answer
  pub next : ℕ

abbrev pub progress : Answer → ℕ → Progress
progress a i = record { answer = a; next = i }

-- What comes of search i of E, by its answer from the leg's c calls on. A clear leaves nothing to search, after none the leg goes on, and
-- a search that needs more calls than the leg has left is not counted: the leg is spent at it.
unfoldable pub turn : (E i c : ℕ) → Answer → (ℕ → Progress) → Progress
turn E i c (clear m d) onward = progress (clear m d) E
turn E i c (Answer.none d) onward = onward d
turn E i c (spent d) onward = progress (spent c) i

-- The k searches from i on, which are the last of E, within the budget A of which c calls are made.
unfoldable pub leg_over : (ℕ → Outcome) → (A E k c i : ℕ) → Progress
leg_over s A E zero c i = progress (Answer.none c) E
leg_over s A E (suc k) c i = turn E i c (answer A (plus c (s i))) (λ d. leg_over s A E k d (i + 1))

-- The leg from search i of E on, within the budget A.
unfoldable pub leg : (ℕ → Outcome) → (A E i : ℕ) → Progress
leg s A E i = leg_over s A E (E - i) 0 i

-- where a leg is spent, a search with that budget counts all of it
unfoldable pub cut : ℕ → Answer → Answer
cut A (clear m d) = clear m d
cut A (Answer.none d) = Answer.none d
cut A (spent d) = spent A

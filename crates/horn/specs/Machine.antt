-- What the rounds as a machine makes them are given and leave, read as the definitions.
use Rattle.std.specs.Prelude.{◌≡◌, true, false, List, [], ◌∷◌, ℕ, ◌+◌, ◌-◌, length}
use Rattle.words.specs.Lists.{count}
use Rattle.words.specs.Bits.{toggle, width}
use Rattle.formula.specs.Formula.{Literal, bit_of, met, literal_word, literal_of}
use Rattle.formula.specs.Counts.{sign_count}
use Rattle.formula.specs.Machine.{Table, held}
use Rattle.tree.specs.Explore.{explore}
use Rattle.tree.specs.Budget.{answer}
use Rattle.tree.specs.Budget.{settle}
use Rattle.planes.specs.Machine.{first_counter, second_counter, plane_cells, Counts, Occurs}
use Rattle.horn.specs.Horn.{horn_tree, rounds}

-- the word of the first of some literals, or 0
unfoldable pub first_word : List Literal → ℕ
first_word [] = 0
first_word (l ∷ ls) = literal_word l

-- The planes show an assignment: how many literals of each clause it meets; and how many are positive.
pub record Shows (k : ℕ) (cells : List ℕ) (m : ℕ) (planes : List ℕ) : Type 0 where
  pub met : Counts k cells first_counter (count (met m)) planes
  pub positive : Counts k cells second_counter (sign_count true) planes

-- A literal that is not met is set: the planes show the assignment with its variable toggled.
pub record Sets (k literal : ℕ) (occ from to : List ℕ) : Type 0 where
  pub size : length to ≡ plane_cells
  pub shows : (cells : List ℕ) (m : ℕ) → Table width k cells → Occurs k cells occ → met m (literal_of literal) ≡ false →
      Shows k cells m from → Shows k cells (toggle m (bit_of (literal_of literal))) to

-- Before a round at the assignment m, with so many rounds made: the rounds from it on give what all give.
pub record Before (n k : ℕ) (cells planes : List ℕ) (m budget made : ℕ) : Type 0 where
  pub size : length planes ≡ plane_cells
  pub shows : Shows k cells m planes
  pub same : settle budget made (explore (horn_tree (held k cells)) (n + budget - made) m) ≡ answer budget (rounds n (held k cells))

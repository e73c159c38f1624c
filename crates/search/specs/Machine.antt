-- What the search machine is given and what it answers, read as the definitions.
use Rattle.std.specs.Prelude.{◌≡◌, false, Option, MatchOption, List, ◌++◌, ℕ, ◌+◌, ◌-◌, ◌*◌, ◌/◌, ◌%◌, ◌^◌, ◌≤◌, ◌<◌, length, get_or}
use Rattle.words.specs.declared.Assignment.{Assignment}
use Rattle.words.specs.Machine.{bits_of}
use Rattle.formula.specs.Machine.{held, clause_at}
use Rattle.formula.specs.declared.sheet.Sheet.{Sheet}
use Rattle.tree.specs.Budget.{clear, none, spent}
use Rattle.tree.specs.Legs as Legs
use Rattle.tree.proofs.LegLaws.{leg_from}
use Rattle.planes.specs.Machine.{plane_cells}
use Rattle.ball.specs.Ball.{is_dead, rule}
use Rattle.ball.specs.Machine.{centred, Ready, Shows, call_from}
use Rattle.ball.specs.declared.ball.Ball.{Ball}
use Rattle.code.specs.declared.plan.Plan as Code
use Rattle.search.specs.Run.{Plan, Block, Search, plan, summed_radius, centre_at, ball, centre_count}
use Rattle.search.specs.Blocks.{block_size, copies, blocks_in}
use Rattle.search.specs.declared.balls.Progress.{Progress}
use Rattle.search.specs.declared.balls.Progress.TheVariants.{Clear, None, Spent}
use Rattle.search.specs.declared.block_code.BlockCode.{BlockCode}
use Rattle.search.specs.declared.codes.Codes.{Codes}
use Rattle.search.specs.declared.partial.Partial.{Partial}

-- ---- the blocks and their centres

-- the plan that the machine's is
abbrev pub plan_in : Code.Plan → Plan
plan_in p = plan p.size p.radius

-- the blocks that codes are for
abbrev pub blocks_of : Codes → List Block
blocks_of c = blocks_in c.layout c.whole_words c.last_words

-- The partial centre q has one block more than p: a word of the code goes above the bits so far.
pub record Joined (b : BlockCode) (cells : List ℕ) (p q : Partial) : Type 0 where
  pub reads : bits_of q.assignment ≡ get_or cells (p.left % b.count) 0 * 2 ^ p.shift + bits_of p.assignment
  pub below : bits_of q.assignment < 2 ^ q.shift
  pub shift : q.shift ≡ p.shift + b.size
  pub left : q.left ≡ p.left / b.count

-- The partial centre p, with the blocks bs still to come, leads to centre i of all blocks.
pub record Towards (all : List Block) (i : ℕ) (bs : List Block) (p : Partial) : Type 0 where
  pub total : centre_at bs p.left * 2 ^ p.shift + bits_of p.assignment ≡ centre_at all i
  pub left : p.left / centre_count bs ≡ i / centre_count all
  pub below : bits_of p.assignment < 2 ^ p.shift

-- The same after j of the whole blocks.
pub record Midway (c : Codes) (i j : ℕ) (p : Partial) : Type 0 where
  pub within : j ≤ c.layout.blocks
  pub shift : p.shift ≡ j * block_size c.layout.whole
  pub towards : Towards (blocks_of c) i
      (copies (c.layout.blocks - j) c.layout.whole c.whole_words ++ copies 1 c.layout.last c.last_words) p

-- Centre i of the blocks, an assignment of the n variables, or that there is none.
abbrev pub CentreFound : Codes → ℕ → Option Assignment → Type 0
CentreFound c i o =
    MatchOption o (centre_count (blocks_of c) ≤ i)
    (λ a. (i < centre_count (blocks_of c)) × (bits_of a ≡ centre_at (blocks_of c) i) × (bits_of a < 2 ^ c.n))

-- so many centres or more are not searched in legs
abbrev pub most_centres : ℕ
most_centres = 2 ^ 63

-- ---- the balls

-- the planes of the centre m become those of m'
pub record Moves (k : ℕ) (occ : List ℕ) (m : ℕ) (planes : List ℕ) (m' : ℕ) (planes' : List ℕ) : Type 0 where
  pub size : length planes' ≡ plane_cells
  pub shows : (cells : List ℕ) → Ready k cells occ → Shows k cells (centred m) planes → Shows k cells (centred m') planes'

-- the search over the clauses in the table and the blocks given
unfoldable pub search_in : ℕ → List ℕ → List Block → Search
search_in k cells bs = record { clauses = held k cells; rule = rule (held k cells); blocks = bs }

-- the search of a sheet's clauses by codes
abbrev pub search_by : Sheet → Codes → Search
search_by s c = search_in s.count s.cells (blocks_of c)

-- what the balls from i on give, where c calls are counted before them
unfoldable pub balls_from : Search → ℕ → ℕ → ℕ → Legs.Progress
balls_from q budget c i = leg_from (ball q) budget (centre_count q.blocks) c i

-- the machine's leg over E balls as the definition's: E is next after clear and none
unfoldable pub progress_in : ℕ → Progress → Legs.Progress
progress_in E (Clear a c) = Legs.progress (clear (bits_of a) c) E
progress_in E (None c) = Legs.progress (none c) E
progress_in E (Spent c i) = Legs.progress (spent c) i

-- r flips give what the whole radius gives, at every centre; and where there are any, no clause is dead.
pub record Reaching (k : ℕ) (cells : List ℕ) (radius r : ℕ) : Type 0 where
  pub same : (m : ℕ) → call_from k cells r (centred m) ≡ call_from k cells radius (centred m)
  pub alive : 0 < r → (m i : ℕ) → i < k → is_dead (centred m) (clause_at cells i) ≡ false

-- What the loop over the balls is given: the planes of the assignment 0, a sheet with codes for its variables, the flips of a ball,
-- and the number of the ball to start at.
pub record Prepared (b : Ball) (c : Codes) (planes : List ℕ) (r i : ℕ) : Type 0 where
  pub size : length planes ≡ plane_cells
  pub shows : Shows b.sheet.now.count b.sheet.now.cells (centred 0) planes
  pub same : b.sheet.now.n ≡ c.n
  pub reach : Reaching b.sheet.now.count b.sheet.now.cells (summed_radius (blocks_of c)) r
  pub start : i < 2 ^ 63
  pub limit : b.budget < 2 ^ 32

-- Before ball i of the search q, which started at the ball `start`: the planes are those of a centre m of n variables, each ball
-- so far took a call, and the balls from i on give what those from `start` on give.
pub record Before (q : Search) (k : ℕ) (cells planes : List ℕ) (n m start budget calls i : ℕ) : Type 0 where
  pub size : length planes ≡ plane_cells
  pub shows : Shows k cells (centred m) planes
  pub below : m < 2 ^ n
  pub each : i ≤ start + calls
  pub enough : calls ≤ budget
  pub same : balls_from q budget calls i ≡ balls_from q budget 0 start

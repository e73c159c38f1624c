-- The run over all balls (paper 01, "The block code"; source 000, sections 2.3 and 2.4), and its bound.
use Rattle.std.specs.Prelude.{◌≡◌, false, cond, List, [], ◌∷◌, ◌++◌, ℕ, ◌+◌, ◌*◌, ◌/◌, ◌%◌, ◌^◌, ◌≤◌, ◌<◌, min, max, eqb, length, get_or, replicate}
use Rattle.words.specs.Lists.{span}
use Rattle.words.specs.Bits.{distance}
use Rattle.formula.specs.Formula.{Clause, Formula, all_true}
use Rattle.tree.specs.Explore.{Outcome, try}
use Rattle.tree.specs.Legs.{Progress, leg}
use Rattle.ball.specs.Ball.{Rule, rule, ball_search}

-- ---- the blocks and their centres

-- A plan: the block length and the radius.
pub record Plan : Type 0 where
  pub size : ℕ
  pub radius : ℕ

abbrev pub plan : ℕ → ℕ → Plan
plan size radius = record { size = size; radius = radius }

-- A block of variables: their number, the radius, and the words of its covering code.
pub record Block : Type 0 where
  pub size : ℕ
  pub radius : ℕ
  pub code : List ℕ

-- the words of the code of each length and radius, in the order in which they are tried
abbrev pub Code : Type 0
Code = ℕ → ℕ → List ℕ

unfoldable pub block_of : Code → ℕ → ℕ → Block
block_of code t s = record { size = t; radius = s; code = code t s }

-- a shorter last block: its radius is at most its length
unfoldable pub short_block : Code → ℕ → ℕ → Block
short_block code t s = block_of code t (min s t)

-- The blocks of n variables: whole ones, and a shorter last one for what is left, if anything is.
unfoldable pub blocks : Code → Plan → ℕ → List Block
blocks code p n =
    let t = n % p.size in
    replicate (n / p.size) (block_of code p.size p.radius) ++ cond (eqb t 0) [] (short_block code t p.radius ∷ [])

-- R: the sum of the blocks' radii
unfoldable pub summed_radius : List Block → ℕ
summed_radius [] = 0
summed_radius (b ∷ bs) = b.radius + summed_radius bs

-- M: the number of the centres
unfoldable pub centre_count : List Block → ℕ
centre_count [] = 1
centre_count (b ∷ bs) = length b.code * centre_count bs

-- Centre i (a whole code word): one word of each block, the first block's in the low bits and changing fastest.
unfoldable pub centre_at : List Block → ℕ → ℕ
centre_at [] i = 0
centre_at (b ∷ bs) i = centre_at bs (i / length b.code) * 2 ^ b.size + get_or b.code (i % length b.code) 0

-- ---- the run

-- What is searched: the clauses, the branching rule and the blocks.
pub record Search : Type 0 where
  pub clauses : List Clause
  pub rule : Rule
  pub blocks : List Block

-- the search of a formula by a plan
unfoldable pub search_of : Code → Plan → Formula → Search
search_of code p f = record { clauses = f.clauses; rule = rule f.clauses; blocks = blocks code p f.n }

-- The search in ball i: all flips left, and no variable flipped.
unfoldable pub ball : Search → ℕ → Outcome
ball q i = ball_search q.clauses q.rule (summed_radius q.blocks) (record { assignment = centre_at q.blocks i; flipped = 0 })

-- The run: ball after ball, up to the first found.
unfoldable pub run : Search → Outcome
run q = try (ball q) (span 0 (centre_count q.blocks))

-- The leg from ball i on, within the budget A: whole balls, as many as it can finish (02, paper 11).
unfoldable pub leg_of : Search → (A i : ℕ) → Progress
leg_of q A i = leg (ball q) A (centre_count q.blocks) i

-- No assignment of n variables within R of the centres from i up to j meets every clause: what those balls were searched for.
unfoldable pub Emptied : Code → Plan → Formula → (i j : ℕ) → Type 0
Emptied code p f i j =
    (x w : ℕ) → i ≤ x → x < j → w < 2 ^ f.n → distance (centre_at (blocks code p f.n) x) w ≤ summed_radius (blocks code p f.n) →
    all_true w f.clauses ≡ false

-- ---- the bounds on its calls

-- the product over the blocks of a number that each has by its length and its radius alone, as planners know them
unfoldable pub product : (ℕ → ℕ → ℕ) → List Block → ℕ
product f [] = 1
product f (b ∷ bs) = f b.size b.radius * product f bs

-- k: the length of the longest clause
unfoldable pub longest : List Clause → ℕ
longest [] = 0
longest (c ∷ cs) = max (length c) (longest cs)

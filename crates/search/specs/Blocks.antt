-- The codes that the machine holds for blocks: their numbers, and the words in the tables.
use Rattle.std.specs.Prelude.{◌≡◌, Option, None, Some, List, [], ◌++◌, ℕ, ◌+◌, ◌*◌, ◌/◌, ◌%◌, ◌^◌, ◌≤◌, ◌<◌, min, length, get_or, take, replicate}
use Rattle.words.specs.Bits.{width}
use Rattle.code.specs.Code.{code}
use Rattle.search.specs.Run.{Plan, Block}
use Rattle.search.specs.declared.block_code.BlockCode.{BlockCode}
use Rattle.search.specs.declared.layout.Layout.{Layout}

-- ---- by their numbers

-- the length, the radius and the number of words of a block, if there is one
unfoldable pub block_size : Option BlockCode → ℕ
block_size None = 0
block_size (Some b) = b.size

unfoldable pub block_radius : Option BlockCode → ℕ
block_radius None = 0
block_radius (Some b) = b.radius

unfoldable pub block_words : Option BlockCode → ℕ
block_words None = 1
block_words (Some b) = b.count

-- n, R and M of a layout
unfoldable pub variables_in : Layout → ℕ
variables_in l = l.blocks * block_size l.whole + block_size l.last

unfoldable pub reach_in : Layout → ℕ
reach_in l = l.blocks * block_radius l.whole + block_radius l.last

unfoldable pub centres_in : Layout → ℕ
centres_in l = block_words l.whole ^ l.blocks * block_words l.last

-- ---- by their words

-- the first `count` cells are the code
unfoldable pub block_in : BlockCode → List ℕ → Block
block_in b cells = record { size = b.size; radius = b.radius; code = take b.count cells }

-- k blocks of a code, if there is one
unfoldable pub copies : ℕ → Option BlockCode → List ℕ → List Block
copies k None cells = []
copies k (Some b) cells = replicate k (block_in b cells)

-- the blocks that a layout and the cells of its two codes stand for
unfoldable pub blocks_in : Layout → List ℕ → List ℕ → List Block
blocks_in l whole last = copies l.blocks l.whole whole ++ copies 1 l.last last

-- The first `count` cells are words of the block's length.
pub record Coded (b : BlockCode) (cells : List ℕ) : Type 0 where
  pub size : 0 < b.size
  pub some : 0 < b.count
  pub held : b.count ≤ length cells
  pub below : (k : ℕ) → k < b.count → get_or cells k 0 < 2 ^ b.size

-- The layout fits an assignment, and the cells of each block that there is are a code.
pub record Laid (l : Layout) (whole last : List ℕ) : Type 0 where
  pub fits : variables_in l ≤ width
  pub wholes : (b : BlockCode) → l.whole ≡ Some b → Coded b whole
  pub lasts : (b : BlockCode) → l.last ≡ Some b → Coded b last

-- Where there are blocks of length t and radius s (`count` of them), the cells begin with their code.
pub record Holds (count t s : ℕ) (o : Option BlockCode) (cells : List ℕ) : Type 0 where
  pub none : o ≡ None → count ≡ 0
  pub some : (b : BlockCode) → o ≡ Some b → (b.size ≡ t) × (b.radius ≡ s) × (take b.count cells ≡ code t s) × Coded b cells

-- The codes of a plan for n variables: of its whole blocks, and of the shorter last one.
pub record HoldsPlan (p : Plan) (n : ℕ) (l : Layout) (whole last : List ℕ) : Type 0 where
  pub count : l.blocks ≡ n / p.size
  pub wholes : Holds (n / p.size) p.size p.radius l.whole whole
  pub lasts : Holds (n % p.size) (n % p.size) (min p.radius (n % p.size)) l.last last

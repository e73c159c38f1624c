-- What the operations answer, for every input, and what they leave in the lent table: paper 01, "What the library offers" and "When
-- the engine declines".
use Rattle.std.specs.Prelude.{Bool, cond, ◌&&◌, List, ◌++◌, ℕ, ◌^◌, leb, length, drop}
use Rattle.code.specs.Code.{code}
use Rattle.code.specs.Volume.{volume, floor}

-- what an operation answers: the number asked for, or the number and the place of a refusal
pub data Answer : Type 0 where
  given : ℕ → Answer
  declined : (number place : ℕ) → Answer

-- "bad plan" and "short table": every refusal here has place 0
abbrev pub bad_plan : Answer
bad_plan = declined 8 0

abbrev pub short_table : Answer
short_table = declined 9 0

-- the longest block
abbrev pub block_limit : ℕ
block_limit = 12

-- a length and a radius of which there is a code: t is 1 to 12, and s at most t
unfoldable pub coded? : ℕ → ℕ → Bool
coded? t s = leb 1 t && (leb t block_limit && leb s t)

-- the table has a cell for each word of length t
unfoldable pub fits? : ℕ → List ℕ → Bool
fits? t table = leb (2 ^ t) (length table)

-- the answer of `code`: the number of the code's words
unfoldable pub code_answer : ℕ → ℕ → List ℕ → Answer
code_answer t s table = cond (coded? t s) (cond (fits? t table) (given (length (code t s))) short_table) bad_plan

-- the first cells hold the code and the others what they held
unfoldable pub written : ℕ → ℕ → List ℕ → List ℕ
written t s table = code t s ++ drop (length (code t s)) table

-- the table after `code`
unfoldable pub code_table : ℕ → ℕ → List ℕ → List ℕ
code_table t s table = cond (coded? t s) (cond (fits? t table) (written t s table) table) table

-- a length and a radius of which there is a volume
unfoldable pub measured? : ℕ → ℕ → Bool
measured? t s = leb t block_limit && leb s block_limit

unfoldable pub volume_answer : ℕ → ℕ → Answer
volume_answer t s = cond (measured? t s) (given (volume t s)) bad_plan

unfoldable pub floor_answer : ℕ → ℕ → Answer
floor_answer t s = cond (measured? t s) (given (floor t s)) bad_plan

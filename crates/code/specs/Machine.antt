-- What the operations answer, as the machine has it; and what the arrays of the greedy construction hold: the words of a ball around 0,
-- a flag for each word that is not yet covered, and each word's gain.
use Rattle.std.specs.Prelude.{◌≡◌, Result, Ok, Err, Bool, true, false, cond, not, ◌&&◌, List, ◌++◌, ℕ, zero, suc, ◌+◌, ◌-◌, ◌^◌, ◌≤◌, ◌<◌, max, eqb, length, get_or, take, drop}
use Rattle.std.specs.Int.Bits.{bit_xor}
use Rattle.words.specs.Lists.{some, keep, span, In}
use Rattle.code.specs.Code.{near, greedy, code}
use Rattle.code.specs.Operations.{Answer, given, declined, written}
use Rattle.words.specs.declared.Refused.{Refused}
use Rattle.words.specs.Refusals.{number_of}

-- a result as the answer that it stands for
abbrev pub answer_in : Result ℕ Refused → Answer
answer_in (Ok n) = given n
answer_in (Err e) = declined (number_of e.reason) e.place

-- the cells of a table that has room for any code: 2 ^ block_limit
abbrev pub code_cells : ℕ
code_cells = 4096

-- the largest f below n
unfoldable pub peak : (ℕ → ℕ) → ℕ → ℕ
peak f zero = 0
peak f (suc n) = max (peak f n) (f n)

-- the places whose flag is set
unfoldable pub flagged : List Bool → List ℕ
flagged flags = keep (λ x. get_or flags x false) (span 0 (length flags))

-- x is in the ball around w: what they differ in is one of the words of the ball around 0
unfoldable pub listed : List ℕ → ℕ → ℕ → Bool
listed ball w x = some (eqb (bit_xor w x)) ball

-- a list of different words that lead from any number below n to one below n
pub record Offsets (ball : List ℕ) (n : ℕ) : Type 0 where
  pub inside : (x y : ℕ) → x < n → In y ball → bit_xor x y < n
  pub fresh : (j : ℕ) → j < length ball → some (eqb (get_or ball j 0)) (take j ball) ≡ false

-- each cell of gains holds how many of the flagged places the ball around its word holds
pub record Counts (ball gains : List ℕ) (left : List Bool) : Type 0 where
  pub offsets : Offsets ball (length left)
  pub size : length gains ≡ length left
  pub counted : (w : ℕ) → w < length left → get_or gains w 0 ≡ length (keep (listed ball w) (flagged left))

-- x is a place whose ball has no cell at 0
pub record Lowerable (ball : List ℕ) (x : ℕ) (gains : List ℕ) : Type 0 where
  pub offsets : Offsets ball (length gains)
  pub place : x < length gains
  pub positive : (w : ℕ) → w < length gains → listed ball x w ≡ true → 0 < get_or gains w 0

-- the cells of the ball around x are one less, the others as before
pub record Lowered (ball : List ℕ) (x : ℕ) (before after : List ℕ) : Type 0 where
  pub size : length after ≡ length before
  pub cells : (w : ℕ) → w < length before → get_or after w 0 + cond (listed ball x w) 1 0 ≡ get_or before w 0

-- w is joining the code: the first j words of the ball around it are no longer flagged, and the gains count the others
pub record Joining (ball gains : List ℕ) (before left : List Bool) (w j : ℕ) : Type 0 where
  pub passed : j ≤ length ball
  pub size : length left ≡ length before
  pub counts : Counts ball gains left
  pub cleared : (x : ℕ) → x < length before → get_or left x false ≡ (get_or before x false && not (listed (take j ball) w x))

-- the code so far stands in the first `count` cells, and greedy would go on with what is left
pub record Growing (t s : ℕ) (ball gains : List ℕ) (left : List Bool) (before table : List ℕ) (count : ℕ) : Type 0 where
  pub counts : Counts ball gains left
  pub words : length left ≡ 2 ^ t
  pub small : 2 ^ t ≤ code_cells
  pub fits : 2 ^ t ≤ length before
  pub same : (w x : ℕ) → w < 2 ^ t → x < 2 ^ t → listed ball w x ≡ near s w x
  pub room : count + length (flagged left) ≤ 2 ^ t
  pub size : length table ≡ length before
  pub rest : take count table ++ greedy t s (2 ^ t - count) (flagged left) ≡ code t s
  pub others : drop count table ≡ drop count before

-- what the construction of a code answers, and what it leaves
pub record Filled (t s r : ℕ) (before after : List ℕ) : Type 0 where
  pub count : r ≡ length (code t s)
  pub most : r ≤ 2 ^ t
  pub cells : after ≡ written t s before

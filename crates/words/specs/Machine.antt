-- What the machine's assignments and sets read as, and the words in which a host in C lends an assignment.
use Rattle.std.specs.Prelude.{◌≡◌, Bool, true, List, [], ◌∷◌, ℕ, ◌/◌, ◌^◌, ◌≤◌, ◌<◌, length, get_or}
use Rattle.words.specs.declared.Assignment.{Assignment}
use Rattle.words.specs.Bits.{bit, width, word_at}

-- a set of variables is an assignment: those whose bit is 1 are in it
abbrev pub Set : Type 0
Set = Assignment

-- the number whose bits an assignment holds: bit v - 1 is the value of variable v
abbrev pub bits_of : Assignment → ℕ
bits_of a = a.bits

-- the number of a set: bit v - 1 is set where variable v is in it
abbrev pub set_of : Set → ℕ
set_of s = bits_of s

-- the words of an assignment
unfoldable pub words_in : Assignment → List ℕ
words_in a = let m = bits_of a in word_at m 0 ∷ word_at m 1 ∷ word_at m 2 ∷ word_at m 3 ∷ []

-- how many words of 32 bits a host lends
abbrev pub word_count : ℕ
word_count = width / 32

-- each of some words has 32 bits
abbrev pub Small : List ℕ → Type 0
Small ws = (i : ℕ) → get_or ws i 0 < 2 ^ 32

-- The words that are lent: so many, and each of 32 bits.
pub record Lent (ws : List ℕ) : Type 0 where
  pub size : length ws ≡ word_count
  pub each : Small ws

-- r is the lowest bit in which a and b differ, or n where their lowest n bits are the same.
pub record FirstDifference (n a b r : ℕ) : Type 0 where
  pub within : r ≤ n
  pub before : (v : ℕ) → v < r → bit a v ≡ bit b v
  pub here : r < n → bit a r ≡ bit b r → ⊥

-- Whether two sets have a variable in common.
pub record Meets (a b : ℕ) (r : Bool) : Type 0 where
  pub each : (v : ℕ) → v < width → bit a v ≡ true → bit b v ≡ true → r ≡ true
  pub some : r ≡ true → (v : ℕ) × (v < width) × (bit a v ≡ true) × (bit b v ≡ true)

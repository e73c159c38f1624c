-- The bits of a natural number, of any width: an assignment, a set of variables and a code word are such numbers.
use Rattle.std.specs.Prelude.{Bool, List, [], ◌∷◌, ℕ, ◌+◌, ◌*◌, ◌/◌, ◌%◌, ◌^◌, eqb}
use Rattle.std.specs.Int.Bits.{bit_xor}
use Rattle.std.specs.Int.Count.{ones}

-- bit v of m, counted from 0
unfoldable pub bit : ℕ → ℕ → Bool
bit m v = eqb (m / 2 ^ v % 2) 1

-- m with bit v changed
unfoldable pub toggle : ℕ → ℕ → ℕ
toggle m v = bit_xor m (2 ^ v)

-- the Hamming distance: the number of bits in which a and b differ
unfoldable pub distance : ℕ → ℕ → ℕ
distance a b = ones (bit_xor a b)

-- how many variables an assignment has room for
abbrev pub width : ℕ
width = 128

-- the number of an assignment as a host in C has it, in words of 32 bits, the lowest first
unfoldable pub from_words : List ℕ → ℕ
from_words [] = 0
from_words (w ∷ ws) = from_words ws * 2 ^ 32 + w

-- word i of a number
unfoldable pub word_at : ℕ → ℕ → ℕ
word_at m i = m / 2 ^ (32 * i) % 2 ^ 32

-- The covering promise: all that a verdict, and the bound on the calls, may cite of a block code. (The count of calls depends on the words
-- of the code and their order too.)
use Rattle.std.specs.Prelude.{ℕ, ◌^◌, ◌≤◌, ◌<◌, List}
use Rattle.words.specs.Lists.{In}
use Rattle.words.specs.Bits.{distance}

-- Every word of length t is within s of a word of the code.
unfoldable pub Covers : ℕ → ℕ → List ℕ → Type 0
Covers t s c = (x : ℕ) → x < 2 ^ t → (w : ℕ) × In w c × (distance w x ≤ s)

-- Each word of the code has length t.
unfoldable pub Within : ℕ → List ℕ → Type 0
Within t c = (w : ℕ) → In w c → w < 2 ^ t

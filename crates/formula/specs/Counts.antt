-- Numbers of a clause, and how a flip moves them.
use Rattle.std.specs.Prelude.{◌≡◌, Bool, ℕ, ◌+◌, ◌≤◌, ◌<◌, eqb}
use Rattle.std.specs.Bool.{beq}
use Rattle.std.specs.Int.Bits.{bit_xor}
use Rattle.words.specs.Lists.{some, count}
use Rattle.words.proofs.BitLaws.{digit}
use Rattle.formula.specs.Formula.{Clause, literal_word}

-- how many literals of a clause have this sign
unfoldable pub sign_count : Bool → Clause → ℕ
sign_count b c = count (λ l. beq l.positive b) c

-- the word of the literal of variable v + 1, whose bit is v, with this sign
abbrev pub sign_word : Bool → ℕ → ℕ
sign_word b v = literal_word (record { variable = v + 1; positive = b })

-- the clause holds the literal with the word w
unfoldable pub holds : ℕ → Clause → Bool
holds w c = some (λ l. eqb (literal_word l) w) c

-- the word of the literal of the same variable with the other sign
abbrev pub opposite : ℕ → ℕ
opposite w = bit_xor w 1

-- A number of a clause goes from `count` to `next`: one up where the clause holds the literal with the word up, one down where it holds the
-- one with the word down. It holds at most one of the two, and the number stays small.
pub record Steps (up down : ℕ) (count next : Clause → ℕ) (c : Clause) : Type 0 where
  pub sum : next c + digit (holds down c) ≡ count c + digit (holds up c)
  pub apart : digit (holds up c) + digit (holds down c) ≤ 1
  pub small : next c < 16

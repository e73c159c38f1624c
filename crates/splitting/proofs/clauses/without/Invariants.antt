-- `without` meets its contract: each word so far has the lanes of `from` that are not in the literal's row.
use mathlib.Core.Path.{◌≡◌}
use mathlib.Core.Bool.{not, ◌&&◌}
use mathlib.Core.List.{List}
use Prim.Native.Nat.{ℕ, ◌+◌, ◌*◌, ◌<◌}
use lib.ListN.{length, get_or}
use Rattle.words.specs.Bits.{bit}
use Rattle.planes.specs.Machine.{lanes, row_words}
use Rattle.splitting.proofs.clauses.without.Given as goal

-- word w of the set
abbrev pub Word : List ℕ → ℕ → List ℕ → ℕ → ℕ → Type 0
Word occ literal from w y =
    (j : ℕ) → j < lanes → bit y j ≡ (bit (get_or from w 0) j && not (bit (get_or occ (literal * row_words + w) 0) j))

abbrev pub invariant-loop-w : goal.invariant-loop-w
invariant-loop-w l = (length l.to ≡ row_words) × ((v : ℕ) → v < l.w → Word l.occ.table l.fn.literal.word l.from v (get_or l.to v 0))

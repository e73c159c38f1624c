-- `all` meets its contract: each word so far has the lanes before number k.
use mathlib.Core.Path.{◌≡◌}
use Prim.Native.Nat.{ℕ, ◌+◌, ◌*◌, ◌<◌}
use lib.Dec.{ltb}
use lib.ListN.{length, get_or}
use Rattle.words.specs.Bits.{bit}
use Rattle.planes.specs.Machine.{lanes, row_words}
use Rattle.splitting.proofs.clauses.all.Given as goal

-- word w of the set
abbrev pub Word : ℕ → ℕ → ℕ → Type 0
Word k w y = (j : ℕ) → j < lanes → bit y j ≡ ltb (lanes * w + j) k

abbrev pub invariant-loop-w : goal.invariant-loop-w
invariant-loop-w l = (length l.set ≡ row_words) × ((v : ℕ) → v < l.w → Word l.occ.count v (get_or l.set v 0))

-- `above_zero_after` meets its contract: a word without zeros has no clause that is left with 0, and a word with one has.
use Prim.Native.Nat.{ℕ, ◌<◌}
use Rattle.planes.specs.Machine.{first_counter}
use Rattle.planes.proofs.CountsLaws.{LeavesZero}
use Rattle.planes.proofs.occurrences.Occurrences.above_zero_after.Given as goal

abbrev pub invariant-loop-w : goal.invariant-loop-w
invariant-loop-w l = (v : ℕ) → v < l.w → LeavesZero first_counter l.fn.rows.up.word l.fn.rows.down.word l.self.table l.planes v 0

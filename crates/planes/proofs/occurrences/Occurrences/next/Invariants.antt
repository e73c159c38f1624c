-- `next` meets its contract: the words before w have no such clause, and `seen` has the lanes of word w from number `from` on.
use mathlib.Core.Path.{◌≡◌}
use mathlib.Core.Bool.{◌&&◌}
use mathlib.Core.List.{List}
use Prim.Native.Nat.{ℕ, ◌+◌, ◌*◌, ◌<◌}
use lib.Dec.{leb}
use Rattle.words.specs.Bits.{bit}
use Rattle.formula.specs.Formula.{Clause}
use Rattle.planes.specs.Machine.{lanes, first_counter, second_counter, Counts, First, wanted, Occurs}
use Rattle.planes.proofs.occurrences.Occurrences.next.Given as goal

abbrev pub invariant-loop-w : goal.invariant-loop-w
invariant-loop-w l =
    (l.from < lanes * (l.w + 1)) × ((j : ℕ) → j < lanes → bit l.seen j ≡ leb l.from (lanes * l.w + j))
    × ((cells : List ℕ) (count count' : Clause → ℕ) → Occurs l.self.count cells l.self.table → Counts l.self.count cells first_counter count l.planes →
    Counts l.self.count cells second_counter count' l.planes → let test = wanted l.kind l.row.word cells count count' in
    (r : ℕ) → First (lanes * l.w) l.self.count (λ i. test i && leb l.from i) r → First l.from l.self.count test r)

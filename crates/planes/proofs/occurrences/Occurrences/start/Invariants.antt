-- `start` meets its contract: word by word, `start_word` sums up the lanes of each sign.
use mathlib.Core.Bool.{true, false}
use Rattle.planes.specs.Machine.{Summed}
use Rattle.planes.proofs.PlaneLaws.{FirstWords}
use Rattle.planes.proofs.occurrences.Occurrences.start.Given as goal

abbrev pub invariant-loop-w : goal.invariant-loop-w
invariant-loop-w l = FirstWords (Summed l.n l.self.count l.self.table false) (Summed l.n l.self.count l.self.table true) l.planes l.w

-- `shift` meets its contract: word by word, `shift_slot` moves the slots of both counters.
use Rattle.planes.specs.Machine.{first_counter, second_counter}
use Rattle.planes.proofs.PlaneLaws.{FirstWords}
use Rattle.planes.proofs.CountsLaws.{MovesTo}
use Rattle.planes.proofs.occurrences.Occurrences.shift.Given as goal

abbrev pub invariant-loop-w : goal.invariant-loop-w
invariant-loop-w l =
    FirstWords (MovesTo first_counter l.first.up.word l.first.down.word l.self.table l.from) (MovesTo second_counter l.second.up.word l.second.down.word l.self.table l.from)
    l.to l.w

-- `start_word` meets its contract: variable by variable, `moved` adds the lanes of the literal of the sign.
use Rattle.planes.specs.Machine.{Summed}
use Rattle.planes.proofs.occurrences.Occurrences.start_word.Given as goal

abbrev pub invariant-loop-v : goal.invariant-loop-v
invariant-loop-v l = Summed l.v l.self.count l.self.table l.positive l.w l.word

-- `rounds` meets its contract: before each round the planes show its assignment, and the rounds from it on give what all give.
use Rattle.words.specs.Machine.{bits_of}
use Rattle.horn.specs.Machine.{Before}
use Rattle.horn.proofs.rounds.Given as goal

abbrev pub invariant-loop-made : goal.invariant-loop-made
invariant-loop-made l = Before l.sheet.n l.sheet.count l.sheet.cells l.planes (bits_of l.at) l.budget l.made

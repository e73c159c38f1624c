-- `read_literals` is `take_literals`. The loop's invariant is that of LiteralsLaws.antt, with a law for each way out.
use Rattle.words.specs.Machine.{bits_of}
use Rattle.formula.specs.Sheet.{words}
use Rattle.formula.proofs.LiteralsLaws.{LiteralsSofar}
use Rattle.formula.proofs.read_literals.Given as goal

abbrev pub invariant-loop-j : goal.invariant-loop-j
invariant-loop-j l = LiteralsSofar l.n l.c l.at l.from (words l.part) l.initial.cells l.cells (bits_of l.seen) l.j

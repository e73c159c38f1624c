-- `clause_reading` meets its contract: literal by literal, past the last clause none.
use Rattle.words.specs.Machine.{bits_of}
use Rattle.ball.specs.Machine.{reading_in, Counting}
use Rattle.ball.proofs.reading.clause_reading.Given as goal

abbrev pub invariant-loop-j : goal.invariant-loop-j
invariant-loop-j l =
    Counting (record { assignment = bits_of l.assignment; flipped = bits_of l.flipped }) l.sheet.cells l.i l.j (reading_in l.reading)

-- `counted` meets its contract: the words of an assignment are those of its number.
use Rattle.decision.proofs.counted.Goals as goal

pub returns : goal.returns
returns c = rw (c.number.ensures, c.number-2.ensures, c.word.ensures, c.word-2.ensures, c.word-3.ensures, c.word-4.ensures)

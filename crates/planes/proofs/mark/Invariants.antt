-- `mark` meets its contract: literal by literal, the clause's lane is set in the literal's row.
use mathlib.Core.Path.{◌≡◌}
use lib.ListN.{length}
use Rattle.planes.specs.Machine.{occurrence_cells, Marked}
use Rattle.planes.proofs.OccurLaws.{first_of}
use Rattle.planes.proofs.mark.Given as goal

abbrev pub invariant-loop-word : goal.invariant-loop-word
invariant-loop-word l =
    (length l.occ ≡ occurrence_cells) × Marked l.i (first_of l.clause l.word-index) l.initial.occ l.occ

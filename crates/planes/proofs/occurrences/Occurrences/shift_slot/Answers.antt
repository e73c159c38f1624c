-- `shift_slot` meets its contract: `moved` counts the lanes of one row up and those of the other down.
use Rattle.planes.proofs.occurrences.Occurrences.shift_slot.Goals as goal

pub returns : goal.returns
returns c =
    let word = c.before.before in
    record { word = _; moved = rw (word.slot_at.ensures, word.first_cell.ensures.0, word.first_cell-2.ensures.0) at word.moved-next.ensures; stored = c.put_slot.ensures }
